-- In which directory each directory stands.
use Rattle.std.specs.Prelude.{◌≡◌, ◌⊎◌, ℕ, zero, suc, ◌<◌, Bool, true, false, ◌||◌, nat_eq, List, map, length, slice_index_or, slice_set, Option, Some, None, Contains}
use Rattle.std.specs.FinMap as maps
use Rattle.wasi_host.specs.Tree.{Tree, node_at, next_of, names_of, is_directory}
use Rattle.wasi_tree.specs.NodeData.{NodeData}
use Rattle.wasi_tree.specs.WellFormed.{entries_at}

-- the directory of a node; none of a number out of range
abbrev pub parent_of : List (Option ℕ) → ℕ → Option ℕ
parent_of parents n = slice_index_or parents n None

-- what a name of a node holds
abbrev pub named_at : Tree → ℕ → List ℕ → Option ℕ
named_at t d name = maps.get (names_of (node_at t d).content) name

-- Each directory that has a name stands in the one that has it under that name alone, and each other in none.
pub record AreParents (t : Tree) (parents : List (Option ℕ)) : Type 0 where
  pub len : length parents ≡ next_of t
  pub within : (d n : ℕ) (name : List ℕ) → named_at t d name ≡ Some n → n < next_of t
  pub up : (d n : ℕ) (name : List ℕ) → is_directory (node_at t n).content ≡ true → named_at t d name ≡ Some n
      → parent_of parents n ≡ Some d
  pub down : (d n : ℕ) → is_directory (node_at t n).content ≡ true → parent_of parents n ≡ Some d
      → (name : List ℕ) × (named_at t d name ≡ Some n)
  pub once : (d n : ℕ) (name other : List ℕ) → is_directory (node_at t n).content ≡ true → named_at t d name ≡ Some n
      → named_at t d other ≡ Some n → name ≡ other

-- there is a mark for each node, and its parent
pub record IsKept (t : Tree) (marks : ℕ) (parents : List (Option ℕ)) : Type 0 where
  pub counted : marks ≡ next_of t
  pub stand : AreParents t parents

-- what stands in no directory any more
abbrev pub without_parent : List (Option ℕ) → Option ℕ → List (Option ℕ)
without_parent parents None = parents
without_parent parents (Some n) = slice_set parents n None

-- whether the way up from a node, of at most so many steps, comes to another
abbrev pub goes_up : (ℕ → Bool) → Option ℕ → Bool
goes_up from None = false
goes_up from (Some parent) = from parent

unfoldable pub is_on_way : List (Option ℕ) → ℕ → ℕ → ℕ → Bool
is_on_way parents zero top n = nat_eq n top
is_on_way parents (suc steps) top n = nat_eq n top || goes_up (is_on_way parents steps top) (parent_of parents n)

-- each of these numbers that is in range stands in this directory, and each other as before
pub record ArePut (d : ℕ) (numbers : List ℕ) (old new : List (Option ℕ)) : Type 0 where
  pub len : length new ≡ length old
  pub each : (n : ℕ) → Contains numbers n → n < length old → parent_of new n ≡ Some d
  pub from : (n : ℕ) → (parent_of new n ≡ parent_of old n) ⊎ (Contains numbers n × (parent_of new n ≡ Some d))

-- the numbers of the entries of a node
abbrev pub numbers_at : List NodeData → ℕ → List ℕ
numbers_at nodes d = map (λ e. e.1) (entries_at nodes d)

-- each number that entries give stands in a directory whose entries give it
pub record TellParents (nodes : List NodeData) (parents : List (Option ℕ)) : Type 0 where
  pub len : length parents ≡ length nodes
  pub each : (d n : ℕ) → Contains (numbers_at nodes d) n → n < length nodes → (e : ℕ) × (parent_of parents n ≡ Some e)
  pub from : (d n : ℕ) → parent_of parents n ≡ Some d → Contains (numbers_at nodes d) n
