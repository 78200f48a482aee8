-- What the members of a node, and of a directory's names, are read as, one after another.
use Rattle.std.specs.Prelude.{ℕ, List, [], ◌∷◌, map, false, Option, Some, option_map, unwrap_or}
use Rattle.std.specs.Cmp.Lexicographic.{slice_cmp}
use Rattle.std.specs.FinMap.Entries.{put}
use Rattle.std.specs.List.{fold}
use Rattle.std.specs.Ordering.{nat_cmp}
use Rattle.std.specs.String.{string_bytes}
use Rattle.std.specs.declared.alloc.Global.{Global}
use Rattle.std.specs.declared.string.String.{String}
use Rattle.serde_json.specs.Data.{Data, Members, no_members, member}
use Rattle.wasi_tree.specs.NodeData.{pair_of}
use Rattle.wasi_form.specs.declared.nodes.EntryParts.{EntryParts}
use Rattle.wasi_form.specs.declared.nodes.NodeParts.{NodeParts}
use Rattle.wasi_form.specs.Lists.{same, ◌>>=◌, at_name}
use Rattle.wasi_form.specs.NodeForm.{NodeFound, node_members}
use Rattle.wasi_form.specs.Shapes.{u64_of}

-- ---- the names of a directory

-- names in byte order, each with its number; none where another value stands there
abbrev pub Numbered : Type 0
Numbered = List (List ℕ × Option ℕ)

-- of all members
abbrev pub numbered : Members → Numbered
numbered no_members = []
numbered (member name d ms) = (name, u64_of d) ∷ numbered ms

-- with one more member, which counts for those before it at its name
abbrev pub with_number : List ℕ → Data → Numbered → Numbered
with_number name d found = put (slice_cmp nat_cmp) name (u64_of d) found

-- what is put in one after another
abbrev pub put_in_turn : Numbered → Numbered
put_in_turn pairs = fold (λ found pair. put (slice_cmp nat_cmp) pair.0 pair.1 found) [] pairs

-- names as they were read
abbrev pub names_read : List (String Global × Option ℕ) → Numbered
names_read pairs = map (λ pair. (string_bytes pair.0, pair.1)) pairs

abbrev pub entries_found : EntryParts → Numbered
entries_found parts = put_in_turn (names_read parts.pairs.items)

-- the entries, where each name has a number
abbrev pub all_numbered : Numbered → Option (List (List ℕ × ℕ))
all_numbered [] = Some []
all_numbered (pair ∷ pairs) = do
  node ← pair.1
  entries ← all_numbered pairs
  Some ((pair.0, node) ∷ entries)

-- ---- a node

-- with one more member, which counts for those before it at its key
unfoldable pub with_node_member : List ℕ → Data → NodeFound → NodeFound
with_node_member key d found = unwrap_or (at_name node_members key) (λ _ all. record all { known = false }) d found

-- of the parts of a node that were read
abbrev pub node_found_of : NodeParts → NodeFound
node_found_of parts = record {
  known = parts.known;
  dir = option_map (option_map (λ v. map pair_of v.items)) parts.dir;
  file = option_map (option_map (λ v. v.items)) parts.file;
  link = option_map (option_map string_bytes) parts.link;
  bits = option_map (option_map same) parts.bits;
  times = option_map (option_map same) parts.times;
}
