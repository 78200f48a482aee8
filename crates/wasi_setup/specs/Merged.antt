-- What a tree is that came of another by steps: the nodes that were worked on, and the other's under every other number.
use Rattle.std.specs.Prelude.{ℕ, ◌≤◌, ◌≡◌, true, false}
use Rattle.std.specs.FinSet.{contains}
use Rattle.wasi_host.specs.Agree.{IsMade}
use Rattle.wasi_host.specs.Tree.{Tree, next_of, node_at}

-- A tree over a base: under each number that no step worked on stands the base's node, and the limits are the base's. No
-- number of the base is given up, each further one was worked on, and what was worked on in the base counts in the tree.
pub record IsMergedTree (base t : Tree) : Type 0 where
  pub others : (n : ℕ) → contains t.worked n ≡ false → node_at t n ≡ node_at base n
  pub limits : t.limits ≡ base.limits
  pub grows : next_of base ≤ next_of t
  pub made : (n : ℕ) → IsMade base t n → contains t.worked n ≡ true
  pub still : (n : ℕ) → contains base.worked n ≡ true → contains t.worked n ≡ true
