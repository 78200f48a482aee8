-- What the test of fit nodes is made of: counts of names, marks of what is found, and what both decide of one node.
use Rattle.std.specs.Prelude.{◌≡◌, ◌⊎◌, ℕ, ◌+◌, ◌<◌, Bool, true, false, not, ◌&&◌, ◌||◌, nat_eq, nat_lt, nat_le, List, [], ◌∷◌, ◌++◌, map, length, slice_index_or, count_by, Contains}
use Rattle.std.specs.Bool.{Decides}
use Rattle.std.specs.List.{list_all}
use Rattle.wasi_host.specs.declared.limits.Limits.{Limits}
use Rattle.wasi_tree.specs.declared.node.NewEntry.{NewEntry}
use Rattle.wasi_tree.specs.NodeData.{NodeData, ContentData, file, directory, link, pair_of, data_entries}
use Rattle.wasi_tree.specs.NodeDataTests.{are_distinct}
use Rattle.wasi_tree.specs.WellFormed.{is_fit_file, is_fit_entry, is_fit_text, IsFound}
use Rattle.wasi_tree.specs.declared.well_formed.Place.{Place}

-- the numbers of entries
abbrev pub entry_numbers : List NewEntry → List ℕ
entry_numbers entries = map (λ e. e.1) (map pair_of entries)

-- the numbers of the entries of one node
abbrev pub content_numbers : ContentData → List ℕ
content_numbers content = map (λ e. e.1) (data_entries content)

-- the numbers of all entries
abbrev pub all_numbers : List NodeData → List ℕ
all_numbers [] = []
all_numbers (g ∷ gs) = content_numbers g.content ++ all_numbers gs

-- each count grew by how often its number stands in a list; a number out of range has no count
pub record AreCounted (numbers old new : List ℕ) : Type 0 where
  pub len : length new ≡ length old
  pub each : (n : ℕ) → n < length old
      → slice_index_or new n 0 ≡ slice_index_or old n 0 + count_by (λ m. nat_eq m n) numbers

-- a number that has a mark; none out of range has
abbrev pub IsMarked : List Bool → ℕ → Type 0
IsMarked marks n = slice_index_or marks n false ≡ true

-- how many numbers have no mark
abbrev pub unmarked_count : List Bool → ℕ
unmarked_count marks = count_by not marks

-- Each of these numbers that is in range got a mark, and each that got one came to the work list.
pub record AreMarked (numbers : List ℕ) (marks : List Bool) (work : List ℕ) (marks' : List Bool) (work' : List ℕ) : Type 0 where
  pub len : length marks' ≡ length marks
  pub kept : (n : ℕ) → IsMarked marks n → IsMarked marks' n
  pub each : (n : ℕ) → Contains numbers n → n < length marks → IsMarked marks' n
  pub new : (n : ℕ) → IsMarked marks' n → IsMarked marks n ⊎ (Contains numbers n × Contains work' n)
  pub waits : (n : ℕ) → Contains work n → Contains work' n
  pub comes : (n : ℕ) → Contains work' n → Contains work n ⊎ IsMarked marks' n
  -- a number comes to the work list with its mark, so once at most
  pub balance : length work' + unmarked_count marks' ≡ length work + unmarked_count marks

-- the marks tell which numbers are found from node 0
pub record TellFound (nodes : List NodeData) (marks : List Bool) : Type 0 where
  pub len : length marks ≡ length nodes
  pub each : (n : ℕ) → n < length nodes → Decides (slice_index_or marks n false) (IsFound nodes n)

-- `HasPlace`, by what is known of the number
abbrev pub has_place : Place → List (List ℕ × ℕ) → Bool
has_place place entries =
    (nat_eq place.number 0 && nat_eq place.names 0)
    || (nat_lt 0 place.number && nat_eq place.names 1 && place.is_found)
    || (nat_lt 0 place.number && nat_eq place.names 0 && nat_eq (length entries) 0)

-- `IsFitContent`, by what is known of the number
abbrev pub is_fit_content : Limits → ℕ → Place → ContentData → Bool
is_fit_content limits count place (file bytes) = is_fit_file bytes && nat_le place.names limits.links
is_fit_content limits count place (directory entries) =
    has_place place entries && list_all (is_fit_entry count) entries && are_distinct (map (λ e. e.0) entries)
is_fit_content limits count place (link text) = is_fit_text text && nat_le place.names limits.links

-- `IsFit`, by what is known of the number
abbrev pub is_fit : Limits → ℕ → Place → NodeData → Bool
is_fit limits count place g = nat_lt place.number limits.nodes && is_fit_content limits count place g.content
