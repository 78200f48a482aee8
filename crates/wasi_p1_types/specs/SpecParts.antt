-- What the specifications of the calls are made of.
use Rattle.std.specs.Prelude.{ℕ, ◌+◌, nat_le, List, length, slice_range, slice_set, if◌then◌else◌, Ok, Err, Option, Some, None}
use Rattle.wasi_fs.specs.Perms.{is_read_only}
use Rattle.wasi_fs.specs.declared.open_mode.OpenMode.{OpenMode}
use Rattle.wasi_fs.specs.declared.perms.FsPerms.{FsPerms}
use Rattle.wasi_host.specs.Answer.{unless}
use Rattle.wasi_host.specs.declared.errors.ErrorCode.{ErrorCode}
use Rattle.wasi_host.specs.declared.open_handle.OpenHandle.{OpenHandle}
use Rattle.wasi_host.specs.declared.metadata.Metadata.{Metadata}
use Rattle.wasi_host.specs.Steps.{◌>>=◌}
use Rattle.wasi_guest.specs.Range.{in_memory, with_bytes}
use Rattle.wasi_guest.specs.Records.{Found}
use Rattle.wasi_guest.specs.declared.guest_error.GuestError.{GuestError}
use Rattle.wasi_guest.specs.declared.guest_error.GuestError.TheVariants as guests
use Rattle.wasi_guest.specs.declared.errno.Errno.{Errno as ErrorNumber}
use Rattle.wasi_guest.specs.declared.errno.Errno.TheVariants as errnos
use Rattle.wasi_guest.specs.declared.answer.TrapKind.TheVariants.{Pointer, TableFull}
use Rattle.wasi_guest.specs.declared.answer.Value.{Value}
use Rattle.wasi_guest.specs.declared.answer.Value.TheVariants.{Number, Filestat}
use Rattle.wasi_p1_types.specs.Filestats.{stat_both, filestat_in}
use Rattle.wasi_p1_types.specs.Guest.{Guest, GuestSlot, closed, stream, directory, file, is_closed, OpenDirectory, OpenFile, new_number, with_guest_slot}
use Rattle.wasi_p1_types.specs.Numbering.{live_count}
use Rattle.wasi_p1_types.specs.CallResult.{CallResult, give, from_host}
use Rattle.wasi_p1_types.specs.declared.slots.FileModes.{FileModes}
use Rattle.wasi_p1_types.specs.declared.slots.Stream.TheVariants as streams
use Rattle.wasi_p1_types.specs.declared.guest_env.Output.{Output}
use Rattle.wasi_p1_types.specs.declared.guest_env.Output.TheVariants as outputs
use Rattle.wasi_p1_types.specs.declared.error.P1Error.{P1Error}
use Rattle.wasi_p1_types.specs.declared.error.P1Error.TheVariants.{Errno, Trap}
use Rattle.wasi_resolve.specs.PathRequest.{Opened}

-- a range of the memory, or the trap
abbrev pub range : List ℕ → ℕ → ℕ → CallResult (List ℕ)
range memory at n = if in_memory memory at n then Ok (slice_range memory at (at + n)) else Err (Trap Pointer)

-- why something isn't read from memory, as an error of the call: a trap of its address, or an error number
abbrev pub guest_fault : GuestError → P1Error
guest_fault guests.PtrOverflow = Trap Pointer
guest_fault guests.PtrOutOfBounds = Trap Pointer
guest_fault guests.PtrNotAligned = Trap Pointer
guest_fault guests.InvalidUtf8 = Errno errnos.Ilseq
guest_fault guests.InvalidFlagValue = Errno errnos.Inval
guest_fault guests.InvalidEnumValue = Errno errnos.Inval

-- what is read from memory
abbrev pub from_guest : {A : Type 0} → Found A → CallResult A
from_guest (Ok x) = Ok x
from_guest (Err e) = Err (guest_fault e)

-- what a live number stands for
abbrev pub live_in : Option GuestSlot → CallResult GuestSlot
live_in (Some (directory d)) = Ok (directory d)
live_in (Some (file f)) = Ok (file f)
live_in (Some (stream s)) = Ok (stream s)
live_in (Some closed) = Err (Errno errnos.Badf)
live_in None = Err (Errno errnos.Badf)

-- a directory or file: its node, and what is permitted of it
pub record OpenNode : Type 0 where
  pub node : ℕ
  pub perms : FsPerms

abbrev pub node_of : OpenDirectory → OpenNode
node_of d = record { node = d.node; perms = d.perms }

-- the directory that a number stands for, and of a file this refusal
abbrev pub directory_or : ErrorNumber → Option GuestSlot → CallResult OpenNode
directory_or of_file (Some (directory d)) = Ok (node_of d)
directory_or of_file (Some (file f)) = Err (Errno of_file)
directory_or of_file (Some (stream s)) = Err (Errno errnos.Badf)
directory_or of_file (Some closed) = Err (Errno errnos.Badf)
directory_or of_file None = Err (Errno errnos.Badf)

-- the one that a path is opened from
abbrev pub directory_in : Option GuestSlot → CallResult OpenNode
directory_in = directory_or errnos.Notdir

-- the one that any other path starts from
abbrev pub start_in : Option GuestSlot → CallResult OpenNode
start_in = directory_or errnos.Badf

-- what is read by a number: the standard input, or a file
pub data ReadTarget : Type 0 where
  input : ReadTarget
  from : OpenFile → ReadTarget

abbrev pub read_target_in : Option GuestSlot → CallResult ReadTarget
read_target_in (Some (file f)) = Ok (from f)
read_target_in (Some (stream streams.Input)) = Ok input
read_target_in (Some (stream streams.Output)) = Err (Errno errnos.Badf)
read_target_in (Some (stream streams.Error)) = Err (Errno errnos.Badf)
read_target_in (Some (directory d)) = Err (Errno errnos.Badf)
read_target_in (Some closed) = Err (Errno errnos.Badf)
read_target_in None = Err (Errno errnos.Badf)

-- what is written by one: a standard output, or a file
pub data WriteTarget : Type 0 where
  output : Output → WriteTarget
  into : OpenFile → WriteTarget

abbrev pub write_target_in : Option GuestSlot → CallResult WriteTarget
write_target_in (Some (file f)) = Ok (into f)
write_target_in (Some (stream streams.Output)) = Ok (output outputs.Stdout)
write_target_in (Some (stream streams.Error)) = Ok (output outputs.Stderr)
write_target_in (Some (stream streams.Input)) = Err (Errno errnos.Badf)
write_target_in (Some (directory d)) = Err (Errno errnos.Badf)
write_target_in (Some closed) = Err (Errno errnos.Badf)
write_target_in None = Err (Errno errnos.Badf)

-- what a number stands for that is a directory's or file's
abbrev pub open_node_in : Option GuestSlot → CallResult OpenNode
open_node_in (Some (directory d)) = Ok (node_of d)
open_node_in (Some (file f)) = Ok (record { node = f.node; perms = f.perms })
open_node_in (Some (stream s)) = Err (Errno errnos.Badf)
open_node_in (Some closed) = Err (Errno errnos.Badf)
open_node_in None = Err (Errno errnos.Badf)

-- so many more descriptors than are live may be; else the trap
unfoldable pub room_for : List GuestSlot → ℕ → ℕ → CallResult (Unit {0})
room_for slots table_max more =
    if nat_le (live_count is_closed slots + more) table_max then Ok tt else Err (Trap TableFull)

-- what isn't permitted is refused by the error number of its code
abbrev pub permit : Option ErrorCode → CallResult (Unit {0})
permit own = from_host (unless own tt)

-- the descriptor of what was opened, for this, with the permissions of its directory: a directory's, or a file's at its
-- start and with these modes
abbrev pub new_guest_slot : FsPerms → OpenMode → FileModes → Opened → GuestSlot
new_guest_slot perms mode modes found =
    if found.is_dir
    then directory (record { node = found.held.node; perms = perms; open_mode = mode; preopen = None })
    else file (record {
      node = found.held.node;
      mode = found.held.mode;
      perms = perms;
      open_mode = mode;
      position = 0;
      modes = modes;
    })

-- the number of the new descriptor, and the descriptors with it
abbrev pub opened_among : List GuestSlot → FsPerms → OpenMode → FileModes → Opened → CallResult (ℕ × List GuestSlot)
opened_among slots perms mode modes found =
    give (new_number slots, with_guest_slot slots (new_guest_slot perms mode modes found))

-- a text, as far as a buffer takes it
abbrev pub text_to : List ℕ → ℕ → List ℕ → CallResult (ℕ × List ℕ)
text_to memory buf bytes =
    range memory buf (length bytes) >>= (λ _. give (length bytes, with_bytes memory buf bytes))

-- the file of a descriptor, as it was opened
abbrev pub held_by : OpenFile → OpenHandle
held_by f = record { node = f.node; mode = f.mode }

-- nothing is written under read-only permissions
unfoldable pub may_write : FsPerms → CallResult (Unit {0})
may_write perms = if is_read_only perms then Err (Errno errnos.Badf) else Ok tt

-- a file's descriptor at this position
abbrev pub at_position : OpenFile → ℕ → OpenFile
at_position f position = record f { position = position }

-- the guest whose number stands for this file
abbrev pub with_file : Guest → ℕ → OpenFile → Guest
with_file g fd f = record g { slots = slice_set g.slots fd (file f) }

-- ---- what is made of a reply

-- the number of the new descriptor
abbrev pub opened_in : Guest → FsPerms → OpenMode → FileModes → Opened → CallResult (Value × Guest)
opened_in g perms mode modes found =
    opened_among g.slots perms mode modes found >>= (λ new. give (Number new.0, record g { slots = new.1 }))

-- how many bytes of a link's text were put into a buffer
abbrev pub link_into : Guest → ℕ → List ℕ → CallResult (Value × Guest)
link_into g buf text = text_to g.memory buf text >>= (λ p. give (Number p.0, record g { memory = p.1 }))

-- what is told of a node
abbrev pub told_of : Guest → Metadata → CallResult (Value × Guest)
told_of g metadata = filestat_in (stat_both metadata) >>= (λ stat. give (Filestat stat, g))
