-- The insides of guests over one tree, and where two of them meet.
use Rattle.std.specs.Prelude.{◌≢◌, ℕ, ◌<◌, ◌≤◌, List, [], All, Option, Some, None, slice_index_or}
use Rattle.wasi_host.specs.Tree.{Tree, next_of}
use Rattle.wasi_host.specs.ValidTree.{Reached}

-- a node lies inside a guest where it is reached by names from the guest's directories
abbrev pub LiesInside : Tree → List ℕ → ℕ → Type 0
LiesInside t directories n = Reached t directories n

-- the directories of a guest; a number past the last guest has none
abbrev pub directories_of : List (List ℕ) → ℕ → List ℕ
directories_of guests guest = slice_index_or guests guest []

-- a node lies inside two guests
pub record IsShared (t : Tree) (guests : List (List ℕ)) (n : ℕ) : Type 0 where
  pub one : ℕ
  pub other : ℕ
  pub apart : one ≢ other
  pub in_one : LiesInside t (directories_of guests one) n
  pub in_other : LiesInside t (directories_of guests other) n

-- the lowest node that lies inside two guests; none where no node does
abbrev pub IsLowestShared : Tree → List (List ℕ) → Option ℕ → Type 0
IsLowestShared t guests None = (n : ℕ) → IsShared t guests n → ⊥
IsLowestShared t guests (Some n) = IsShared t guests n × ((m : ℕ) → IsShared t guests m → n ≤ m)

-- the directories of all guests are nodes of the tree
abbrev pub AreInTree : Tree → List (List ℕ) → Type 0
AreInTree t guests = All (All (λ directory. directory < next_of t)) guests
