-- What is kept of each descriptor, and what it stands for by the entries of the resource table.
use Rattle.std.specs.Prelude.{ℕ, ◌≡◌, Bool, true, false, List, map, Option, Some, None, slice_index_or}
use Rattle.std.specs.FinMap.{get, insert, remove}
use Rattle.wasi_fs.specs.declared.descriptor.Descriptor.TheVariants as descriptors
use Rattle.wasi_fs.specs.declared.descriptor.Dir.{Dir}
use Rattle.wasi_fs.specs.declared.descriptor.File.{File as OpenedFile}
use Rattle.wasi_streams.specs.Table.{Entries}
use Rattle.wasi_streams.specs.declared.entry.Entry.{Entry}
use Rattle.wasi_streams.specs.declared.entry.Entry.TheVariants as entries
use Rattle.wasi_p1_types.specs.declared.slots.FileModes.{FileModes}
use Rattle.wasi_p1_types.specs.declared.slots.Slot.{Slot}
use Rattle.wasi_p1_types.specs.declared.slots.Slot.TheVariants as slots
use Rattle.wasi_p1_types.specs.declared.slots.Stream.{Stream as StandardStream}
use Rattle.wasi_p1_types.specs.declared.slots.Stream.TheVariants as streams
use Rattle.wasi_p1_types.specs.declared.items.Item.{Item}
use Rattle.wasi_p1_types.specs.declared.items.Item.TheVariants.{Closed, Stream, Directory, File}

-- the resource that a descriptor names
abbrev pub resource_in : Item → Option ℕ
resource_in Closed = None
resource_in (Stream s r) = Some r.number
resource_in (Directory r preopen) = Some r.number
resource_in (File r position modes) = Some r.number

abbrev pub is_closed_item : Item → Bool
is_closed_item Closed = true
is_closed_item (Stream s r) = false
is_closed_item (Directory r preopen) = false
is_closed_item (File r position modes) = false

abbrev pub stream_entry : StandardStream → Entry
stream_entry streams.Input = entries.Stdin
stream_entry streams.Output = entries.Stdout
stream_entry streams.Error = entries.Stderr

-- what an entry stands for as a directory of this place among those that were given, and as a file at a position with
-- these modes; of another kind, which no descriptor names, a stream
abbrev pub directory_of_entry : Option Entry → Option ℕ → Slot
directory_of_entry (Some (entries.Descriptor (descriptors.Dir dir))) preopen =
    slots.Directory (record { dir = dir; preopen = preopen })
directory_of_entry other preopen = slots.Stream streams.Input

abbrev pub file_of_entry : Option Entry → ℕ → FileModes → Slot
file_of_entry (Some (entries.Descriptor (descriptors.File f))) position modes =
    slots.File (record { file = f; position = position; modes = modes })
file_of_entry other position modes = slots.Stream streams.Input

-- what a descriptor stands for
abbrev pub slot_in : Entries → Item → Slot
slot_in table Closed = slots.Closed
slot_in table (Stream s r) = slots.Stream s
slot_in table (Directory r preopen) = directory_of_entry (get table r.number) preopen
slot_in table (File r position modes) = file_of_entry (get table r.number) position modes

unfoldable pub slots_of : Entries → List Item → List Slot
slots_of table items = map (slot_in table) items

-- the table without a descriptor's entry
abbrev pub without_item : Entries → Item → Entries
without_item table Closed = table
without_item table (Stream s r) = remove table r.number
without_item table (Directory r preopen) = remove table r.number
without_item table (File r position modes) = remove table r.number

-- a file's descriptor at another position, or with other modes
abbrev pub put_item : Item → ℕ → FileModes → Item
put_item (File r was were) position modes = File r position modes
put_item Closed position modes = Closed
put_item (Stream s r) position modes = Stream s r
put_item (Directory r preopen) position modes = Directory r preopen

-- ---- what holds of table and descriptors together

-- the entry that a descriptor names is of its kind
abbrev pub IsOfKind : Entries → Item → Type 0
IsOfKind table Closed = Unit {0}
IsOfKind table (Stream s r) = get table r.number ≡ Some (stream_entry s)
IsOfKind table (Directory r preopen) = (dir : Dir) × (get table r.number ≡ Some (entries.Descriptor (descriptors.Dir dir)))
IsOfKind table (File r position modes) =
    (f : OpenedFile) × (get table r.number ≡ Some (entries.Descriptor (descriptors.File f)))

-- the descriptor of a number names this resource
abbrev pub NamesResource : List Item → ℕ → ℕ → Type 0
NamesResource items i r = resource_in (slice_index_or items i Closed) ≡ Some r

-- the live entries are the live descriptors: each live descriptor names an entry of its kind, no two the same one, and
-- each entry is named
pub record AreNamed (table : Entries) (items : List Item) : Type 0 where
  pub kinds : (i : ℕ) → IsOfKind table (slice_index_or items i Closed)
  pub apart : (i j r : ℕ) → NamesResource items i r → NamesResource items j r → i ≡ j
  pub all : (r : ℕ) (e : Entry) → get table r ≡ Some e → (i : ℕ) × NamesResource items i r

-- a new entry, and the descriptor that names it
pub record Admitted (table table' : Entries) (item : Item) (slot : Slot) : Type 0 where
  pub resource : ℕ
  pub entry : Entry
  pub names : resource_in item ≡ Some resource
  pub fresh : get table resource ≡ None
  pub put : table' ≡ insert table resource entry
  pub kind : IsOfKind table' item
  pub stands : slot_in table' item ≡ slot
