-- The state that the calls of a guest change: the tree, and all that is the guest's own. It has no handles.
use Rattle.std.specs.Prelude.{ℕ, Bool, true, false, List, [], ◌∷◌, map, Option, Some, None}
use Rattle.std.specs.List.{flat_map}
use Rattle.wasi_host.specs.Tree.{Tree}
use Rattle.wasi_fs.specs.declared.open_mode.OpenMode.{OpenMode}
use Rattle.wasi_fs.specs.declared.perms.FsPerms.{FsPerms}
use Rattle.wasi_host.specs.HostLaws.{HostModel}
use Rattle.wasi_host.specs.declared.open_handle.AccessMode.{AccessMode}
use Rattle.wasi_host.specs.declared.open_handle.OpenHandle.{OpenHandle}
use Rattle.wasi_p1_types.specs.GuestEnvModel.{GuestEnvModel}
use Rattle.wasi_p1_types.specs.declared.slots.DirectorySlot.{DirectorySlot}
use Rattle.wasi_p1_types.specs.declared.slots.FileModes.{FileModes}
use Rattle.wasi_p1_types.specs.declared.slots.FileSlot.{FileSlot}
use Rattle.wasi_p1_types.specs.declared.slots.Stream.{Stream as StandardStream}
use Rattle.wasi_p1_types.specs.declared.slots.Slot.{Slot}
use Rattle.wasi_p1_types.specs.declared.slots.Slot.TheVariants as slots
use Rattle.wasi_p1_types.specs.Numbering.{free_number, with_new}
use Rattle.wasi_p1_types.specs.Slots.{View}

pub record OpenDirectory : Type 0 where
  pub node : ℕ
  pub perms : FsPerms
  pub open_mode : OpenMode
  -- its place among the directories that the guest was given, if it is one of them
  pub preopen : Option ℕ

pub record OpenFile : Type 0 where
  pub node : ℕ
  pub mode : AccessMode
  pub perms : FsPerms
  pub open_mode : OpenMode
  pub position : ℕ
  pub modes : FileModes

-- what a descriptor number stands for to the guest: a slot without its handle
pub data GuestSlot : Type 0 where
  closed : GuestSlot
  stream : StandardStream → GuestSlot
  directory : OpenDirectory → GuestSlot
  file : OpenFile → GuestSlot

-- all of the state but the tree
pub record Guest : Type 0 where
  pub slots : List GuestSlot
  -- how many descriptors may be live: the largest size of the resource table
  pub table_max : ℕ
  pub memory : List ℕ
  pub holdings : GuestEnvModel

pub record State : Type 0 where
  pub tree : Tree
  pub guest : Guest

-- a directory's or file's descriptor, with what its handle stands for in place of the handle
abbrev pub directory_by : OpenHandle → DirectorySlot → OpenDirectory
directory_by held d =
    record { node = held.node; perms = d.dir.perms; open_mode = d.dir.open_mode; preopen = d.preopen }

abbrev pub file_by : OpenHandle → FileSlot → OpenFile
file_by held f = record {
  node = held.node;
  mode = held.mode;
  perms = f.file.perms;
  open_mode = f.file.open_mode;
  position = f.position;
  modes = f.modes;
}

-- a descriptor so
abbrev pub guest_slot : (ℕ → OpenHandle) → Slot → GuestSlot
guest_slot held slots.Closed = closed
guest_slot held (slots.Stream s) = stream s
guest_slot held (slots.Directory d) = directory (directory_by (held d.dir.dir) d)
guest_slot held (slots.File f) = file (file_by (held f.file.file) f)

-- the descriptors without their handles
abbrev pub guest_slots : (ℕ → OpenHandle) → List Slot → List GuestSlot
guest_slots held table = map (guest_slot held) table

-- the guest of a context and a memory, where the handles stand for these
abbrev pub guest_by : {H : Type 0} → (ℕ → OpenHandle) → View H → List ℕ → Guest
guest_by held context memory = record {
  slots = guest_slots held context.slots;
  table_max = context.table_max;
  memory = memory;
  holdings = context.holdings;
}

-- the same, by what the host tells
abbrev pub guest_of : {H : Type 0} → (H → HostModel) → View H → List ℕ → Guest
guest_of model context memory = guest_by (model context.host).held context memory

abbrev pub state_of : {H : Type 0} → (H → HostModel) → View H → List ℕ → State
state_of model context memory = record { tree = (model context.host).tree; guest = guest_of model context memory }

abbrev pub is_closed : GuestSlot → Bool
is_closed closed = true
is_closed slot = false

-- the number of a new descriptor: the largest closed one, else the next unused one
abbrev pub new_number : List GuestSlot → ℕ
new_number slots = free_number is_closed slots

-- the new descriptor stands under its number
abbrev pub with_guest_slot : List GuestSlot → GuestSlot → List GuestSlot
with_guest_slot slots slot = with_new is_closed slots slot

-- the permissions of a descriptor; a stream has none
abbrev pub perms_in : Option GuestSlot → Option FsPerms
perms_in (Some (directory d)) = Some d.perms
perms_in (Some (file f)) = Some f.perms
perms_in slot = None

abbrev pub node_in : Option GuestSlot → List ℕ
node_in (Some (directory d)) = d.node ∷ []
node_in (Some (file f)) = f.node ∷ []
node_in slot = []

-- the nodes of the directories and files among descriptors
abbrev pub open_nodes : List GuestSlot → List ℕ
open_nodes slots = flat_map (λ slot. node_in (Some slot)) slots
