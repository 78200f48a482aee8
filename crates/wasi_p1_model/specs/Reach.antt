-- Which nodes a run may come to.
use Rattle.std.specs.Prelude.{ℕ, ◌≡◌, ◌≤◌, ◌⊎◌, true, List, Some, Contains}
use Rattle.std.specs.FinSet.{contains}
use Rattle.std.specs.FinMap as map
use Rattle.wasi_host.specs.Agree.{IsMade}
use Rattle.wasi_host.specs.Tree.{Nodes, node_at, names_of, next_of}
use Rattle.wasi_host.specs.ValidTree.{Reached}
use Rattle.wasi_p1_types.specs.Guest.{State, open_nodes}

-- reached at the start from a descriptor's node, so at the start of a guest's run from a preopen
abbrev pub Inside : State → ℕ → Type 0
Inside start n = Reached start.tree (open_nodes start.guest.slots) n

-- inside at the start, or made since
abbrev pub InReach : State → State → ℕ → Type 0
InReach start now n = Inside start n ⊎ IsMade start.tree now.tree n

-- nothing that was touched is given up
abbrev pub StaysTouched : Nodes → Nodes → Type 0
StaysTouched old new = (n : ℕ) → contains old n ≡ true → contains new n ≡ true

-- Each descriptor's node, each node that a directory in reach holds, and each touched node is in reach. Every turn
-- keeps it, and so does every run, from whatever start: two runs after one another keep what the first began with.
pub record Confined (start now : State) (touched : Nodes) : Type 0 where
  pub later : next_of start.tree ≤ next_of now.tree
  pub descriptors : (n : ℕ) → Contains (open_nodes now.guest.slots) n → InReach start now n
  pub names : (d n : ℕ) (name : List ℕ) → InReach start now d
      → map.get (names_of (node_at now.tree d).content) name ≡ Some n → InReach start now n
  pub touched_in : (n : ℕ) → contains touched n ≡ true → InReach start now n
