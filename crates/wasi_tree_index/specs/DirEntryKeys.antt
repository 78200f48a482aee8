-- Rows of names: a directory, a name in it, and the number of the node that the name holds.
use Rattle.std.specs.Prelude.{ℕ, nat_eq, List, map}
use Rattle.std.specs.Ordering.{nat_cmp, ordering_then}
use Rattle.std.specs.Cmp.Lexicographic.{slice_cmp}
use Rattle.std.specs.declared.cmp.Ordering.{Ordering}
use Rattle.std.specs.List.{filter}
use Rattle.std.specs.String.{string_bytes}
use Rattle.std.specs.FinMap as maps
use Rattle.wasi_tree_index.specs.declared.key.DirEntryKey.{DirEntryKey}

-- a directory, and a name in it
abbrev pub Key : Type 0
Key = ℕ × List ℕ

-- by directory, and then by the bytes of the name
abbrev pub key_cmp : Key → Key → Ordering
key_cmp a b = ordering_then (nat_cmp a.0 b.0) (slice_cmp nat_cmp a.1 b.1)

abbrev pub NameEntry : Type 0
NameEntry = Key × ℕ

-- what the names of all directories hold
abbrev pub AllNames : Type 0
AllNames = maps.FinMap key_cmp ℕ

-- the entries of one directory, without its number
abbrev pub run_of : ℕ → List NameEntry → List (List ℕ × ℕ)
run_of d entries = map (λ e. (e.0.1, e.1)) (filter (λ e. nat_eq e.0.0 d) entries)

-- the names of a directory; one without rows has none
unfoldable pub names_at : AllNames → ℕ → maps.FinMap (slice_cmp nat_cmp) ℕ
names_at m d = maps.from_sorted (run_of d (maps.entries m))

abbrev pub row_key : DirEntryKey → Key
row_key row = (row.directory, string_bytes row.name)

abbrev pub row_entry : DirEntryKey → NameEntry
row_entry row = (row_key row, row.node)
