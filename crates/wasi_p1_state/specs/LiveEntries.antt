-- What the live entries of the resource table are: the live descriptors.
use Rattle.std.specs.Prelude.{ℕ, ◌≡◌, List, Option, Some, None, slice_index_or}
use Rattle.std.specs.FinMap.{get}
use Rattle.wasi_fs.specs.declared.descriptor.Descriptor.TheVariants as descriptors
use Rattle.wasi_streams.specs.Table.{Entries}
use Rattle.wasi_streams.specs.declared.entry.Entry.{Entry}
use Rattle.wasi_streams.specs.declared.entry.Entry.TheVariants as entries
use Rattle.wasi_p1_types.specs.Items.{stream_entry}
use Rattle.wasi_p1_types.specs.declared.slots.Slot.{Slot}
use Rattle.wasi_p1_types.specs.declared.slots.Slot.TheVariants as slots

-- the entry of a descriptor that stands for this
abbrev pub entry_of_slot : Slot → Option Entry
entry_of_slot slots.Closed = None
entry_of_slot (slots.Stream s) = Some (stream_entry s)
entry_of_slot (slots.Directory d) = Some (entries.Descriptor (descriptors.Dir d.dir))
entry_of_slot (slots.File f) = Some (entries.Descriptor (descriptors.File f.file))

-- the entry of a resource, if there is one
abbrev pub entry_under : Entries → Option ℕ → Option Entry
entry_under table None = None
entry_under table (Some r) = get table r

-- each live descriptor has an entry, of what it stands for; no two have the same one; and there are no others
pub record AreLiveDescriptors (table : Entries) (under : List Slot) : Type 0 where
  pub resource : ℕ → Option ℕ
  pub each : (fd : ℕ) → entry_under table (resource fd) ≡ entry_of_slot (slice_index_or under fd slots.Closed)
  pub apart : (fd other r : ℕ) → resource fd ≡ Some r → resource other ≡ Some r → fd ≡ other
  pub all : (r : ℕ) (e : Entry) → get table r ≡ Some e → (fd : ℕ) × (resource fd ≡ Some r)
