-- What nodes are told as that came of others by steps: those that were worked on, and the others under every other number.
use Rattle.std.specs.Prelude.{ℕ, ◌≡◌, List, Contains, slice_get}
use Rattle.wasi_tree.specs.NodeData.{NodeData}

-- Nodes as they are told: under each number that isn't kept stands the base's node, and none where the base has none. So
-- the base and the nodes under the kept numbers tell them all
pub record IsMerged (base : List NodeData) (kept : List ℕ) (nodes : List NodeData) : Type 0 where
  pub others : (n : ℕ) → (Contains kept n → ⊥) → slice_get nodes n ≡ slice_get base n
