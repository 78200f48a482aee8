-- The same walk with a stack of nodes in place of names, as code that holds handles makes it.
use Rattle.std.specs.Prelude.{ℕ, zero, suc, Bool, true, false, if◌then◌else◌, List, [], ◌∷◌}
use Rattle.wasi_host.specs.Tree.{Tree, node_at}
use Rattle.wasi_host.specs.Answer.{reached, link_text}
use Rattle.wasi_host.specs.declared.errors.ErrorCode.TheVariants.{Access, Loop, NotPermitted}
use Rattle.wasi_paths.specs.Parts.{Component, RootDir, CurDir, ParentDir, Normal}
use Rattle.wasi_resolve.specs.Walk.{Aim, Stop, Name, Dot, Leg, Ended, Linked, Position, at, is_to_be_read, refused, unless_refused, Walk, ended, one_link_more, resume}

-- the node on top, or the start
abbrev pub top : ℕ → List ℕ → ℕ
top s [] = s
top s (d ∷ stack) = d

module _ (t : Tree) (s : ℕ) (aim : Aim) (follow slash : Bool) where
  abbrev pub leg_nodes : ℕ → List Component → List ℕ → Leg (List ℕ)
  leg_nodes m [] stack = Ended m (Dot (top s stack))
  leg_nodes m (RootDir ∷ parts) stack = Ended (suc m) (Stop NotPermitted)
  leg_nodes m (CurDir ∷ parts) stack = leg_nodes (suc m) parts stack
  leg_nodes m (ParentDir ∷ parts) [] = Ended (suc m) (Stop NotPermitted)
  leg_nodes m (ParentDir ∷ parts) (d ∷ stack) =
      if (node_at t d).bits.x then leg_nodes (suc m) parts stack else Ended (suc m) (Stop Access)
  leg_nodes m (Normal name ∷ []) stack =
      if is_to_be_read t aim follow slash true (top s stack) name
      then Linked (suc m) stack (link_text t (top s stack) name) []
      else Ended (suc m) (Name (top s stack) name slash)
  leg_nodes m (Normal name ∷ part ∷ parts) stack =
      if is_to_be_read t aim follow slash false (top s stack) name
      then Linked (suc m) stack (link_text t (top s stack) name) (part ∷ parts)
      else unless_refused (suc m) (refused t aim slash false (top s stack) name) (leg_nodes (suc m) (part ∷ parts)
      (reached t (top s stack) name ∷ stack))

abbrev pub walk_nodes : Tree → ℕ → Aim → Bool → ℕ → Bool → ℕ → List Component → List ℕ → Walk
walk_nodes t s aim follow zero slash m parts stack =
    resume (λ _ m _ _. ended m (Stop Loop)) slash (leg_nodes t s aim follow slash m parts stack)
walk_nodes t s aim follow (suc links) slash m parts stack =
    resume (λ slash m parts stack. one_link_more (walk_nodes t s aim follow links slash m parts stack)) slash
    (leg_nodes t s aim follow slash m parts stack)

-- the nodes that the names of a position lead to
abbrev pub nodes_of : Tree → ℕ → Position → List ℕ
nodes_of t s [] = []
nodes_of t s (name ∷ names) = at t s (name ∷ names) ∷ nodes_of t s names

abbrev pub map_leg : {P Q : Type 0} → (P → Q) → Leg P → Leg Q
map_leg f (Ended m outcome) = Ended m outcome
map_leg f (Linked m position text left) = Linked m (f position) text left
