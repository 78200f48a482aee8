-- What the specifications of the calls on files and on preopens are made of.
use Rattle.std.specs.Prelude.{ℕ, ◌^◌, not, ◌&&◌, ◌||◌, nat_lt, List, length, slice_get, if◌then◌else◌, ℤ, pos, negsuc, ◌+ℤ◌, Option, Some, None, Ok, Err}
use Rattle.wasi_guest.specs.Flags as flag
use Rattle.wasi_guest.specs.Flags.{has}
use Rattle.wasi_guest.specs.Range.{with_bytes}
use Rattle.wasi_guest.specs.declared.answer.Value.{Value}
use Rattle.wasi_guest.specs.declared.answer.Value.TheVariants.{Number}
use Rattle.wasi_guest.specs.declared.enums.Advice.{Advice}
use Rattle.wasi_guest.specs.declared.enums.Advice.TheVariants as advices
use Rattle.wasi_guest.specs.declared.enums.Whence.{Whence}
use Rattle.wasi_guest.specs.declared.enums.Whence.TheVariants.{Set, Cur, End}
use Rattle.wasi_guest.specs.declared.errno.Errno.{Errno as ErrorNumber}
use Rattle.wasi_guest.specs.declared.errno.Errno.TheVariants as errnos
use Rattle.wasi_fs.specs.Perms.{is_append_only}
use Rattle.wasi_fs.specs.declared.perms.FsPerms.{FsPerms}
use Rattle.wasi_host.specs.Steps.{◌>>=◌}
use Rattle.wasi_host.specs.declared.advice.Advice.{Advice as HostAdvice}
use Rattle.wasi_host.specs.declared.advice.Advice.TheVariants as host_advices
use Rattle.wasi_p1_types.specs.Guest.{Guest, GuestSlot, OpenFile, closed, stream, directory, file}
use Rattle.wasi_p1_types.specs.SpecParts.{at_position, range, room_for, with_file}
use Rattle.wasi_p1_types.specs.CallResult.{CallResult, give}
use Rattle.wasi_p1_types.specs.declared.slots.FileModes.{FileModes}
use Rattle.wasi_p1_types.specs.declared.slots.Stream.{Stream as StandardStream}
use Rattle.wasi_p1_types.specs.declared.slots.Stream.TheVariants as streams
use Rattle.wasi_p1_types.specs.declared.error.P1Error.TheVariants.{Errno}
use Rattle.wasi_p1_types.specs.declared.usage.FileUse.{FileUse}
use Rattle.wasi_p1_types.specs.declared.usage.FileUse.TheVariants.{Itself, Position, ReadAt, WriteAt}

-- ---- files

-- how a standard stream is refused where a file is asked for: one that has no place to go to is refused `spipe` where a
-- place is named
abbrev pub stream_refused : FileUse → StandardStream → ErrorNumber
stream_refused Itself s = errnos.Badf
stream_refused Position s = errnos.Spipe
stream_refused ReadAt streams.Input = errnos.Spipe
stream_refused ReadAt streams.Output = errnos.Badf
stream_refused ReadAt streams.Error = errnos.Badf
stream_refused WriteAt streams.Input = errnos.Badf
stream_refused WriteAt streams.Output = errnos.Spipe
stream_refused WriteAt streams.Error = errnos.Spipe

-- the file that a number stands for
abbrev pub file_in : FileUse → Option GuestSlot → CallResult OpenFile
file_in wanted (Some (file f)) = Ok f
file_in wanted (Some (stream s)) = Err (Errno (stream_refused wanted s))
file_in wanted (Some (directory d)) = Err (Errno errnos.Badf)
file_in wanted (Some closed) = Err (Errno errnos.Badf)
file_in wanted None = Err (Errno errnos.Badf)

-- one that is read at an offset, where there is room for a stream of it
abbrev pub read_place_in : List GuestSlot → ℕ → Option GuestSlot → CallResult OpenFile
read_place_in slots table_max slot = do
  f ← file_in ReadAt slot
  _ ← room_for slots table_max 1
  give f

-- ---- positions

-- an integer as a position, which has 64 bits
abbrev pub position_of : ℤ → CallResult ℕ
position_of (pos n) = if nat_lt n (2 ^ 64) then Ok n else Err (Errno errnos.Inval)
position_of (negsuc n) = Err (Errno errnos.Inval)

-- so far from another one
unfoldable pub position_from : ℕ → ℤ → CallResult ℕ
position_from base offset = position_of (pos base +ℤ offset)

-- from where a position is counted, but for the end of the file
abbrev pub base_in : ℕ → Whence → Option ℕ
base_in position Set = Some 0
base_in position Cur = Some position
base_in position End = None

-- the file is at this position
abbrev pub sought : Guest → ℕ → OpenFile → ℕ → Value × Guest
sought g fd f position = (Number position, with_file g fd (at_position f position))

-- ---- how a file is used

-- the advice of the same name
abbrev pub host_advice : Advice → HostAdvice
host_advice advices.Normal = host_advices.Normal
host_advice advices.Sequential = host_advices.Sequential
host_advice advices.Random = host_advices.Random
host_advice advices.WillNeed = host_advices.WillNeed
host_advice advices.DontNeed = host_advices.DontNeed
host_advice advices.NoReuse = host_advices.NoReuse

-- a flag of integrity is refused
unfoldable pub not_synchronized : ℕ → CallResult (Unit {0})
not_synchronized fdflags =
    if has fdflags flag.dsync || has fdflags flag.rsync || has fdflags flag.sync
    then Err (Errno errnos.Inval)
    else Ok tt

-- a file under append-only permissions goes on to be appended to
unfoldable pub keeps_append : FsPerms → FileModes → CallResult (Unit {0})
keeps_append perms modes = if is_append_only perms && not modes.append then Err (Errno errnos.Perm) else Ok tt

-- ---- preopens

-- the name of the directory of a place among those that the guest was given
abbrev pub name_of : List (List ℕ) → Option ℕ → Option (List ℕ)
name_of names (Some place) = slice_get names place
name_of names None = None

-- the name of a number's directory
abbrev pub name_at : List (List ℕ) → Option GuestSlot → Option (List ℕ)
name_at names (Some (directory d)) = name_of names d.preopen
name_at names (Some (file f)) = None
name_at names (Some (stream s)) = None
name_at names (Some closed) = None
name_at names None = None

-- and of a number that isn't such a directory's a refusal
abbrev pub or_refused : {A : Type 0} → ErrorNumber → Option A → CallResult A
or_refused e (Some x) = Ok x
or_refused e None = Err (Errno e)

-- a name that is longer than may be is refused
unfoldable pub name_within : List ℕ → ℕ → CallResult (List ℕ)
name_within name most = if nat_lt most (length name) then Err (Errno errnos.Nametoolong) else Ok name

-- the memory with a name, where there is room for it
unfoldable pub name_into : List ℕ → ℕ → List ℕ → ℕ → CallResult (List ℕ)
name_into memory at name most = do
  bytes ← name_within name most
  _ ← range memory at (length bytes)
  give (with_bytes memory at bytes)
