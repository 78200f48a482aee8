-- What holds of an overlay when it begins, and between its calls.
use Rattle.std.specs.Prelude.{◌≡◌, ℕ, true, []}
use Rattle.std.specs.FinSet.{contains, empty}
use Rattle.wasi_host.specs.Tree.{Tree}
use Rattle.wasi_tree.specs.MemState.{MemState, live_of}

-- each node that a step worked on was touched
pub record WorksOnTouched (m : MemState) : Type 0 where
  pub touched : (n : ℕ) → contains m.tree.worked n ≡ true → contains m.touched n ≡ true

-- it has this tree, on which no step has worked, and nobody asked anything of it: there is no live handle, no node is
-- touched, and there is no lookup
pub record IsFreshOn (t : Tree) (m : MemState) : Type 0 where
  pub tree : m.tree ≡ record t { worked = empty }
  pub live : live_of m.handles ≡ empty
  pub touched : m.touched ≡ empty
  pub lookups : m.lookups ≡ []
