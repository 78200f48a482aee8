-- Which lists of nodes a tree can be made of, and which number keeps a list from it.
use Rattle.std.specs.Prelude.{◌≡◌, ◌⊎◌, ℕ, zero, suc, ◌<◌, ◌≤◌, Bool, true, not, ◌&&◌, nat_lt, nat_le, List, [], map, length, slice_get, Contains, Option, Some, None, IsTrue}
use Rattle.std.specs.List.{list_all}
use Rattle.std.specs.Option.{ForSome}
use Rattle.std.specs.Str.{is_utf8}
use Rattle.wasi_paths.specs.Text.{has_nul, is_entry_name}
use Rattle.wasi_host.specs.ValidTree.{are_bytes}
use Rattle.wasi_host.specs.declared.limits.Limits.{Limits}
use Rattle.wasi_host.specs.Numbers.{largest_file, longest_link}
use Rattle.wasi_tree.specs.NodeData.{NodeData, ContentData, file, directory, link, data_entries, entry_count}
use Rattle.wasi_tree.specs.NodeDataTests.{are_distinct, numbers_from, starts_with_directory}
use Rattle.wasi_tree.specs.declared.errors.TreeError.{TreeError}
use Rattle.wasi_tree.specs.declared.errors.TreeError.TheVariants.{Invalid, Memory}

-- bytes, not too many for a file
abbrev pub is_fit_file : List ℕ → Bool
is_fit_file bytes = are_bytes bytes && nat_le (length bytes) largest_file

-- a text that a link may have: some bytes, not too many, in UTF-8 and without NUL
abbrev pub is_fit_text : List ℕ → Bool
is_fit_text text = nat_lt 0 (length text) && nat_le (length text) longest_link && is_utf8 text && not (has_nul text)

-- an entry among so many nodes: a name that a directory may hold, in UTF-8, and the number of a node
abbrev pub is_fit_entry : ℕ → List ℕ × ℕ → Bool
is_fit_entry count entry = is_entry_name entry.0 && is_utf8 entry.0 && nat_lt entry.1 count

abbrev pub entries_held : Option NodeData → List (List ℕ × ℕ)
entries_held None = []
entries_held (Some g) = data_entries g.content

-- the entries of the node of a number; a number out of range has none
abbrev pub entries_at : List NodeData → ℕ → List (List ℕ × ℕ)
entries_at nodes n = entries_held (slice_get nodes n)

-- the least set of numbers that has 0, and with a node each number that its entries give
pub data IsFound (nodes : List NodeData) : ℕ → Type 0 where
  at_zero : IsFound nodes 0
  by_entry : (d : ℕ) (entry : List ℕ × ℕ) → IsFound nodes d → Contains (entries_at nodes d) entry → IsFound nodes entry.1

-- Node 0 has no name. Another directory has exactly one and is found from node 0, or it is removed: it has no name and
-- no entries.
abbrev pub HasPlace : List NodeData → ℕ → List (List ℕ × ℕ) → Type 0
HasPlace nodes zero entries = entry_count 0 nodes ≡ 0
HasPlace nodes (suc n) entries =
    ((entry_count (suc n) nodes ≡ 1) × IsFound nodes (suc n))
    ⊎ ((entry_count (suc n) nodes ≡ 0) × (entries ≡ []))

-- what a node of this number may be; every entry counts as a name of the node that it gives
abbrev pub IsFitContent : Limits → List NodeData → ℕ → ContentData → Type 0
IsFitContent limits nodes n (file bytes) = IsTrue (is_fit_file bytes) × (entry_count n nodes ≤ limits.links)
IsFitContent limits nodes n (directory entries) =
    IsTrue (list_all (is_fit_entry (length nodes)) entries) × IsTrue (are_distinct (map (λ e. e.0) entries))
    × HasPlace nodes n entries
IsFitContent limits nodes n (link text) = IsTrue (is_fit_text text) × (entry_count n nodes ≤ limits.links)

abbrev pub IsFit : Limits → List NodeData → ℕ → NodeData → Type 0
IsFit limits nodes n g = (n < limits.nodes) × IsFitContent limits nodes n g.content

-- a number keeps the rules: number 0 is a directory's, and the node of a number is fit
pub record IsWellFormedNode (limits : Limits) (nodes : List NodeData) (n : ℕ) : Type 0 where
  pub first : n ≡ 0 → starts_with_directory nodes ≡ true
  pub fit : ForSome (slice_get nodes n) (IsFit limits nodes n)

-- a tree can be made of these nodes
abbrev pub AreFit : Limits → List NodeData → Type 0
AreFit limits nodes = (n : ℕ) → IsWellFormedNode limits nodes n

-- the lowest number that breaks the rules
pub record IsLowestUnfit (limits : Limits) (nodes : List NodeData) (n : ℕ) : Type 0 where
  pub breaks : IsWellFormedNode limits nodes n → ⊥
  pub below : (k : ℕ) → k < n → IsWellFormedNode limits nodes k

-- why no tree is made of these nodes
abbrev pub IsTreeCause : Limits → List NodeData → TreeError → Type 0
IsTreeCause limits nodes (Invalid n) = IsLowestUnfit limits nodes n
IsTreeCause limits nodes Memory = Unit {0}

-- how many entries give each number, from 0 on
abbrev pub name_counts : List NodeData → List ℕ
name_counts nodes = map (λ n. entry_count n nodes) (numbers_from 0 (length nodes))
