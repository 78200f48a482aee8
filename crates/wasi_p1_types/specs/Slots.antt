-- A context of calls over a host, as contracts see it.
use Rattle.std.specs.Prelude.{ℕ, suc, Bool, true, false, not, List, [], ◌∷◌, Option, Some, None}
use Rattle.std.specs.String.{string_bytes}
use Rattle.wasi_fs.specs.OpenMode.{mode_for}
use Rattle.wasi_fs.specs.Perms.{is_read_only}
use Rattle.wasi_fs.specs.declared.descriptor.Descriptor.{Descriptor}
use Rattle.wasi_fs.specs.declared.descriptor.Descriptor.TheVariants as descriptors
use Rattle.wasi_fs.specs.declared.descriptor.Dir.{Dir}
use Rattle.wasi_fs.specs.declared.descriptor.File.{File as OpenedFile}
use Rattle.wasi_fs.specs.declared.open_mode.OpenMode.{OpenMode}
use Rattle.wasi_fs.specs.declared.perms.FsPerms.{FsPerms}
use Rattle.wasi_p1_types.specs.GuestEnvModel.{GuestEnvModel}
use Rattle.wasi_p1_types.specs.declared.slots.FileModes.{FileModes}
use Rattle.wasi_p1_types.specs.declared.slots.P1Preopen.{P1Preopen}
use Rattle.wasi_p1_types.specs.declared.slots.Stream.TheVariants.{Input, Output, Error}
use Rattle.wasi_p1_types.specs.declared.slots.Slot.{Slot}
use Rattle.wasi_p1_types.specs.declared.slots.Slot.TheVariants.{Closed, Stream, Directory, File}

-- the host itself, the descriptors by number and how many of them may be live, what the guest has beside them, and the
-- fuel that is left
pub record View (H : Type 0) : Type 0 where
  pub host : H
  pub slots : List Slot
  pub table_max : ℕ
  pub holdings : GuestEnvModel
  pub fuel : ℕ

-- a directory that the guest is given may be read, and written unless it is read-only
abbrev pub preopen_mode : FsPerms → OpenMode
preopen_mode perms = mode_for true (not (is_read_only perms))

abbrev pub preopen_directory : P1Preopen → Dir
preopen_directory preopen =
    record { dir = preopen.handle; perms = preopen.perms; open_mode = preopen_mode preopen.perms }

-- the name by which the guest knows it
abbrev pub name_of_preopen : P1Preopen → List ℕ
name_of_preopen preopen = string_bytes preopen.name

-- its descriptor, by its place among those that are given
abbrev pub preopen_slot : ℕ → P1Preopen → Slot
preopen_slot place preopen = Directory (record { dir = preopen_directory preopen; preopen = Some place })

-- their descriptors, where the first has this place
abbrev pub preopen_slots : ℕ → List P1Preopen → List Slot
preopen_slots place [] = []
preopen_slots place (preopen ∷ preopens) = preopen_slot place preopen ∷ preopen_slots (suc place) preopens

-- the three streams, then the directories that the guest is given
abbrev pub first_slots : List P1Preopen → List Slot
first_slots preopens = Stream Input ∷ Stream Output ∷ Stream Error ∷ preopen_slots 0 preopens

abbrev pub is_closed_slot : Slot → Bool
is_closed_slot Closed = true
is_closed_slot slot = false

-- what a directory's or file's slot stands for
abbrev pub descriptor_in : Slot → Option Descriptor
descriptor_in (Directory d) = Some (descriptors.Dir d.dir)
descriptor_in (File f) = Some (descriptors.File f.file)
descriptor_in slot = None

-- the descriptor of what was opened, a file's at its start and with these modes
abbrev pub slot_of : FileModes → Descriptor → Slot
slot_of modes (descriptors.File f) = File (record { file = f; position = 0; modes = modes })
slot_of modes (descriptors.Dir dir) = Directory (record { dir = dir; preopen = None })

-- the file of a descriptor
abbrev pub file_under : Option Slot → Option OpenedFile
file_under (Some (File f)) = Some f.file
file_under other = None
