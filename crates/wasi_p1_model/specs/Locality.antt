-- Which nodes a call may come to, by the descriptors that it names.
use Rattle.std.specs.Prelude.{◌≡◌, ◌⊎◌, ℕ, true, List, slice_get}
use Rattle.std.specs.FinSet.{contains}
use Rattle.std.specs.List.{flat_map}
use Rattle.wasi_host.specs.Agree.{OrMade}
use Rattle.wasi_host.specs.HostLaws.{HostModel}
use Rattle.wasi_host.specs.Tree.{Tree}
use Rattle.wasi_host.specs.ValidTree.{Reached}
use Rattle.wasi_guest.specs.declared.call.Call.{Call}
use Rattle.wasi_p1_types.specs.Guest.{Guest, node_in}
use Rattle.wasi_p1_model.specs.Calls.{descriptors_named}

-- the nodes of the directories and files that a call names
abbrev pub nodes_named : Guest → Call → List ℕ
nodes_named g call = flat_map (λ fd. node_in (slice_get g.slots fd)) (descriptors_named g.memory call)

-- A node that is near a call: one of the nodes that the call names; one that a directory near it holds by a name in the
-- tree before the call; or one that the call made
abbrev pub IsLocalCall : Tree → Tree → Guest → Call → ℕ → Type 0
IsLocalCall before after g call n = OrMade (Reached before (nodes_named g call)) before after n

-- the nodes touched after a call are those touched before, and nodes near it
pub record TouchesOnlyNear (w v : HostModel) (g : Guest) (call : Call) : Type 0 where
  pub stays : (n : ℕ) → contains w.touched n ≡ true → contains v.touched n ≡ true
  pub near : (n : ℕ) → contains v.touched n ≡ true → (contains w.touched n ≡ true) ⊎ IsLocalCall w.tree v.tree g call n
