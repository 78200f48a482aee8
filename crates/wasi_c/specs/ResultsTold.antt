-- What C is told of a sandbox that it reads.
use Rattle.std.specs.Prelude.{◌≡◌, ◌<◌, ◌≤◌, ℕ, Bool, true, false, if◌then◌else◌, List, [], ◌∷◌, ◌++◌, length, drop, take, Option, Some, None}
use Rattle.std.specs.FinMap as maps
use Rattle.std.specs.Int.{to_le_bytes, w64}
use Rattle.std.specs.Str.{is_utf8}
use Rattle.wasi_guest.specs.FiletypeNumber.{filetype_number}
use Rattle.wasi_guest.specs.declared.filetype.Filetype.{Filetype}
use Rattle.wasi_guest.specs.declared.filetype.Filetype.TheVariants as filetypes
use Rattle.wasi_host.specs.Tree.{Tree, Node, next_of, node_at, names_of, links_of, is_gone}
use Rattle.wasi_host.specs.declared.system_time.SystemTime.{SystemTime}
use Rattle.wasi_tree.specs.MemState.{MemState}
use Rattle.wasi_tree.specs.NodeData.{NodeData, ContentData, file, directory, link, data_of_content, data_of_node}
use Rattle.wasi_sandbox.specs.declared.sandbox.Sandbox.{Sandbox}
use Rattle.wasi_c.specs.Held.{Held}
use Rattle.wasi_c.specs.Told.{Holds}
use Rattle.wasi_c.specs.declared.results.NodeRecord.{NodeRecord}
use Rattle.wasi_c.specs.declared.results.TimeRecord.{TimeRecord}

-- the tree as it stands
abbrev pub tree_of : Sandbox MemState → Tree
tree_of s = s.context.host.inner.tree

-- ---- nodes

abbrev pub filetype_in : ContentData → Filetype
filetype_in (file bytes) = filetypes.RegularFile
filetype_in (directory names) = filetypes.Directory
filetype_in (link text) = filetypes.SymbolicLink

-- a directory's size is shown as 0
abbrev pub size_in : ContentData → ℕ
size_in (file bytes) = length bytes
size_in (directory names) = 0
size_in (link text) = length text

abbrev pub time_record : SystemTime → TimeRecord
time_record time = record { seconds = time.seconds; nanoseconds = time.nanoseconds }

-- a node with so many names, which is a removed directory or isn't
abbrev pub node_record : NodeData → ℕ → Bool → NodeRecord
node_record node links gone = record {
  links = links;
  size = size_in node.content;
  atime = time_record node.atime;
  mtime = time_record node.mtime;
  btime = time_record node.btime;
  filetype = filetype_number (filetype_in node.content);
  removed = if gone then 1 else 0;
}

abbrev pub record_of : Node → NodeRecord
record_of node = node_record (data_of_node node) (links_of node.content) (is_gone node.content)

-- the node of a number is written where there is one; else nothing is
pub data NodeTold (t : Tree) (number : ℕ) (before after : NodeRecord) : ℕ → Type 0 where
  node_told : number < next_of t → after ≡ record_of (node_at t number) → NodeTold t number before after 0
  no_node_told : next_of t ≤ number → after ≡ before → NodeTold t number before after 279

abbrev pub TellsNode : Held → ℕ → NodeRecord → NodeRecord → ℕ → Type 0
TellsNode held number before after code = Holds held (λ s. NodeTold (tree_of s) number before after code)

-- ---- bytes

-- those of a file, or of a link's text; a directory has none to be read
abbrev pub readable : ContentData → Option (List ℕ)
readable (file bytes) = Some bytes
readable (directory names) = None
readable (link text) = Some text

-- the bytes from an offset on, as many as have room
abbrev pub part_of : List ℕ → ℕ → ℕ → List ℕ
part_of bytes from room = take room (drop from bytes)

-- such a part stands in front of what was lent, of which the rest stays, and this is how many bytes it has
pub record Copied (bytes : List ℕ) (from : ℕ) (before after : List ℕ) (len : ℕ) : Type 0 where
  pub count : len ≡ length (part_of bytes from (length before))
  pub copied : after ≡ part_of bytes from (length before) ++ drop len before

-- A part of the node's bytes is copied where the number is that of a node with bytes; else all stays
pub data ReadTold (t : Tree) (number from : ℕ) (before after : List ℕ) (len len' : ℕ) : ℕ → Type 0 where
  part_read : (bytes : List ℕ) → number < next_of t → readable (data_of_content (node_at t number).content) ≡ Some bytes
      → Copied bytes from before after len' → ReadTold t number from before after len len' 0
  directory_read : number < next_of t → readable (data_of_content (node_at t number).content) ≡ None
      → after ≡ before → len' ≡ len → ReadTold t number from before after len len' 280
  no_node_read : next_of t ≤ number → after ≡ before → len' ≡ len → ReadTold t number from before after len len' 279

abbrev pub TellsRead : Held → ℕ → ℕ → List ℕ → List ℕ → ℕ → ℕ → ℕ → Type 0
TellsRead held number from before after len len' code =
    Holds held (λ s. ReadTold (tree_of s) number from before after len len' code)

-- ---- names

-- what a directory holds under a name; bytes that aren't UTF-8 are no name
abbrev pub entry_in : Tree → ℕ → List ℕ → Option ℕ
entry_in t d name = if is_utf8 name then maps.get (names_of (node_at t d).content) name else None

-- the number of what is held is written; where nothing is held it stays
pub data EntryTold (t : Tree) (d : ℕ) (name : List ℕ) (before after : ℕ) : ℕ → Type 0 where
  entry_told : entry_in t d name ≡ Some after → EntryTold t d name before after 0
  no_entry_told : entry_in t d name ≡ None → after ≡ before → EntryTold t d name before after 279

abbrev pub TellsEntry : Held → ℕ → List ℕ → ℕ → ℕ → ℕ → Type 0
TellsEntry held d name before after code = Holds held (λ s. EntryTold (tree_of s) d name before after code)

-- the number of the node, little-endian, the name, and a 0
abbrev pub entry_bytes : List ℕ × ℕ → List ℕ
entry_bytes entry = to_le_bytes w64 entry.1 ++ entry.0 ++ 0 ∷ []

abbrev pub listing_bytes : List (List ℕ × ℕ) → List ℕ
listing_bytes [] = []
listing_bytes (entry ∷ entries) = entry_bytes entry ++ listing_bytes entries

-- all names of a directory in byte order; what is no directory has none
abbrev pub listing_in : Tree → ℕ → List ℕ
listing_in t d = listing_bytes (maps.entries (names_of (node_at t d).content))

-- The listing's length, and the listing in front of the bytes that were lent, of which the others stay, where it isn't
-- longer than these; else they stay. Memory may have been wanted, and then all stays
pub data EntriesTold (t : Tree) (d : ℕ) (before after : List ℕ) (len len' : ℕ) : ℕ → Type 0 where
  all_listed : len' ≡ length (listing_in t d) → after ≡ listing_in t d ++ drop len' before
      → EntriesTold t d before after len len' 0
  short_listed : len' ≡ length (listing_in t d) → length before < len' → after ≡ before
      → EntriesTold t d before after len len' 262
  none_listed : len' ≡ len → after ≡ before → EntriesTold t d before after len len' 260

abbrev pub TellsEntries : Held → ℕ → List ℕ → List ℕ → ℕ → ℕ → ℕ → Type 0
TellsEntries held d before after len len' code = Holds held (λ s. EntriesTold (tree_of s) d before after len len' code)

-- ---- outputs

-- what was written to the standard error, or to the standard output
abbrev pub output_of : Sandbox MemState → Bool → List ℕ
output_of s true = s.context.holdings.stderr
output_of s false = s.context.holdings.stdout

-- a part of it is copied, and this is how many bytes it has in all
pub record OutputTold (s : Sandbox MemState) (error : Bool) (from : ℕ) (before after : List ℕ) (len total : ℕ) : Type 0 where
  pub part : Copied (output_of s error) from before after len
  pub all : total ≡ length (output_of s error)

abbrev pub TellsOutput : Held → Bool → ℕ → List ℕ → List ℕ → ℕ → ℕ → Type 0
TellsOutput held error from before after len total = Holds held (λ s. OutputTold s error from before after len total)
