-- A walk over a tree from the directories of all guests at once.
use Rattle.std.specs.Prelude.{◌≡◌, ◌⊎◌, ℕ, ◌+◌, ◌<◌, ◌≤◌, List, length, sum_by, slice_index_or, Contains, Some}
use Rattle.std.specs.FinMap as maps
use Rattle.wasi_host.specs.Tree.{Tree, next_of, node_at, names_of}
use Rattle.wasi_guests.specs.Insides.{LiesInside, IsShared, directories_of}
use Rattle.wasi_guests.specs.Holders.{TellsOf, both, unknown}
use Rattle.wasi_guests.specs.declared.holders.Holders.{Holders}
use Rattle.wasi_guests.specs.declared.holders.Holders.TheVariants.{Nobody, One, Several}
use Rattle.wasi_guests.specs.declared.walk.Walk.{Walk}

-- which guests are known to hold a node
abbrev pub known_at : Walk → ℕ → Holders
known_at walk n = slice_index_or walk.holders.items n Nobody

-- what is known of a node is so
abbrev pub IsSo : Tree → List (List ℕ) → ℕ → Holders → Type 0
IsSo t guests n Nobody = Unit {0}
IsSo t guests n (One guest) = LiesInside t (directories_of guests guest) n
IsSo t guests n Several = IsShared t guests n

-- all is known of each node: what is known is so, and tells of each guest inside which the node lies
pub record KnowsAll (t : Tree) (guests : List (List ℕ)) (walk : Walk) : Type 0 where
  pub so : (n : ℕ) → IsSo t guests n (known_at walk n)
  pub tells : (guest n : ℕ) → LiesInside t (directories_of guests guest) n → TellsOf (known_at walk n) (One guest)

-- of a node, one of some, more is known than before: that these guests hold it too. So its names wait to be gone over
pub record Learns (nodes : List ℕ) (holders : Holders) (old new : Walk) (n : ℕ) : Type 0 where
  pub among : Contains nodes n
  pub more : known_at new n ≡ both (known_at old n) holders
  pub waits : Contains new.left.items n

-- how many nodes can still be taken from the list
abbrev pub to_do : Walk → ℕ
to_do walk = length walk.left.items + sum_by unknown walk.holders.items

-- these guests hold some nodes: what is known of those nodes tells of them afterwards, and of others it is as before
pub record AreFound (nodes : List ℕ) (holders : Holders) (old new : Walk) : Type 0 where
  pub count : length new.holders.items ≡ length old.holders.items
  pub each : (n : ℕ) → (known_at new n ≡ known_at old n) ⊎ Learns nodes holders old new n
  pub tells : (n : ℕ) → Contains nodes n → TellsOf (known_at new n) holders
  pub waits : (n : ℕ) → Contains old.left.items n → Contains new.left.items n
  pub within : (n : ℕ) → Contains new.left.items n → Contains old.left.items n ⊎ (n < length old.holders.items)
  pub less : to_do new ≤ to_do old

-- what is known is so, and tells of the directories of each guest below a number; what is known of a node tells of all
-- that is known of a directory with a name for it, unless the directory's names wait to be gone over
pub record IsUnderWay (t : Tree) (guests : List (List ℕ)) (begun : ℕ) (walk : Walk) : Type 0 where
  pub count : length walk.holders.items ≡ next_of t
  pub so : (n : ℕ) → IsSo t guests n (known_at walk n)
  pub tells : (guest n : ℕ) → guest < begun → Contains (directories_of guests guest) n → TellsOf (known_at walk n) (One guest)
  pub spread : (d n : ℕ) (name : List ℕ) → maps.get (names_of (node_at t d).content) name ≡ Some n
      → Contains walk.left.items d ⊎ TellsOf (known_at walk n) (known_at walk d)
  pub within : (n : ℕ) → Contains walk.left.items n → n < next_of t

-- it tells of the directories of all guests
abbrev pub HasAllBegun : Tree → List (List ℕ) → Walk → Type 0
HasAllBegun t guests walk = IsUnderWay t guests (length guests) walk
