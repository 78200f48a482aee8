-- Where a walk began, what it is for, and where it stands: one value each.
use Rattle.std.specs.Prelude.{ℕ, Bool, List}
use Rattle.wasi_host.specs.HostLaws.{HostModel, Handles}
use Rattle.wasi_paths.specs.Parts.{Component}
use Rattle.wasi_resolve.specs.Walk.{Aim, Leg}
use Rattle.wasi_resolve.specs.ByNodes.{leg_nodes}
use Rattle.wasi_resolve.specs.Left.{parts_left}
use Rattle.wasi_resolve.specs.Stack.{nodes_under}
use Rattle.wasi_resolve.specs.declared.walk_state.Way as taken

-- what was live before the walk, the model in which it began, and the handle that it starts from
pub record Begin : Type 0 where
  pub live : Handles
  pub model : HostModel
  pub start : ℕ

abbrev pub begin : Handles → HostModel → ℕ → Begin
begin live model start = record { live = live; model = model; start = start }

-- the node that it starts from
abbrev pub origin : Begin → ℕ
origin b = (b.model.held b.start).node

-- what it is for, whether a link under its last name is followed, and whether a slash stands after that name
pub record Course : Type 0 where
  pub aim : Aim
  pub follow : Bool
  pub slash : Bool

-- where it stands: the model, the stack of handles, and the parts left
pub record Way : Type 0 where
  pub model : HostModel
  pub stack : List ℕ
  pub left : List Component

abbrev pub way : HostModel → List ℕ → List Component → Way
way model stack left = record { model = model; stack = stack; left = left }

abbrev pub way_of : HostModel → taken.Way → Way
way_of model it = way model it.stack.items (parts_left it.left.items)

-- the nodes that it went down into, the last one first
abbrev pub way_nodes : Way → List ℕ
way_nodes a = nodes_under a.model.held a.stack

-- what the parts up to the next link come to from there, with those that were taken before
abbrev pub leg_from : Begin → Course → ℕ → Way → Leg (List ℕ)
leg_from b k m a = leg_nodes b.model.tree (origin b) k.aim k.follow k.slash m a.left (way_nodes a)
