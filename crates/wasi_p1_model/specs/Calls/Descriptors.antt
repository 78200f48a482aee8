-- The specifications of the calls on a descriptor itself.
use Rattle.std.specs.Prelude.{ℕ, length, slice_get, slice_set, is_some, if◌then◌else◌, Err}
use Rattle.wasi_guest.specs.Flags.{flags_in, known_fdflags, known_rights}
use Rattle.wasi_guest.specs.declared.answer.Value.TheVariants.{Number, Fdstat, Filestat, Unit as Nothing}
use Rattle.wasi_guest.specs.declared.errno.Errno.TheVariants as errnos
use Rattle.wasi_host.specs.HostCall.{Flags, Stat}
use Rattle.wasi_p1_types.specs.Fdstats.{directory_fdstat, file_told, preopen_fdstat, stream_fdstat}
use Rattle.wasi_p1_types.specs.Filestats.{stream_filestat}
use Rattle.wasi_p1_types.specs.Files.{file_in, keeps_append, name_at, name_into, not_synchronized, or_refused}
use Rattle.wasi_p1_types.specs.Front.{CallFront, free, answer, ask, tells, ◌>>=◌}
use Rattle.wasi_p1_types.specs.Guest.{Guest, GuestSlot, closed, stream, directory, file}
use Rattle.wasi_p1_types.specs.Numbering.{renumbered}
use Rattle.wasi_p1_types.specs.SpecParts.{live_in, open_node_in, told_of, with_file}
use Rattle.wasi_p1_types.specs.RawFlags.{modes_in, or_inval}
use Rattle.wasi_p1_types.specs.Request.{Direct}
use Rattle.wasi_p1_types.specs.CallResult.{give}
use Rattle.wasi_p1_types.specs.declared.error.P1Error.TheVariants.{Errno}
use Rattle.wasi_p1_types.specs.declared.usage.FileUse.TheVariants.{Itself}

-- the number becomes closed
unfoldable pub fd_close : Guest → ℕ → CallFront
fd_close g fd = do
  _ ← free (live_in (slice_get g.slots fd))
  answer (Nothing, record g { slots = slice_set g.slots fd closed })

-- what is told of what a live number stands for: of a file its host is asked, and of a directory that the guest wasn't
-- given, whose answer tells nothing
abbrev pub fdstat_of : Guest → GuestSlot → CallFront
fdstat_of g (stream s) = answer (Fdstat (stream_fdstat s), g)
fdstat_of g (directory d) =
    if is_some d.preopen
    then answer (Fdstat preopen_fdstat, g)
    else ask (Direct (Flags d.node)) (λ _. give (Fdstat directory_fdstat, g))
fdstat_of g (file f) = ask (Direct (Stat f.node)) (λ metadata. give (Fdstat (file_told f metadata), g))
fdstat_of g closed = free (Err (Errno errnos.Badf))

-- a number that isn't live is refused `badf`
unfoldable pub fd_fdstat_get : Guest → ℕ → CallFront
fd_fdstat_get g fd = do
  slot ← free (live_in (slice_get g.slots fd))
  fdstat_of g slot

-- An unknown flag is refused `inval`; then a number that isn't a file's; then a flag of integrity, `inval`; then that a
-- file under append-only permissions isn't appended to, `perm`. The others are the file's modes
unfoldable pub fd_fdstat_set_flags : Guest → ℕ → ℕ → CallFront
fd_fdstat_set_flags g fd flags = do
  set ← free (or_inval (flags_in known_fdflags flags))
  f ← free (file_in Itself (slice_get g.slots fd))
  _ ← free (not_synchronized set)
  _ ← free (keeps_append f.perms (modes_in set))
  answer (Nothing, with_file g fd (record f { modes = modes_in set }))

-- an unknown right is refused `inval`; then a number that is no directory's or file's, and every other `notsup`
unfoldable pub fd_fdstat_set_rights : Guest → ℕ → ℕ → ℕ → CallFront
fd_fdstat_set_rights g fd base inheriting = do
  _ ← free (or_inval (flags_in known_rights base))
  _ ← free (or_inval (flags_in known_rights inheriting))
  _ ← free (open_node_in (slice_get g.slots fd))
  free (Err (Errno errnos.Notsup))

-- what is told of what a live number stands for: of a directory or file as its host says, and a time that 64 bits of
-- nanoseconds don't hold is refused `overflow`
abbrev pub filestat_of : Guest → GuestSlot → CallFront
filestat_of g (stream s) = answer (Filestat stream_filestat, g)
filestat_of g (directory d) = ask (Direct (Stat d.node)) (told_of g)
filestat_of g (file f) = ask (Direct (Stat f.node)) (told_of g)
filestat_of g closed = free (Err (Errno errnos.Badf))

-- a number that isn't live is refused `badf`
unfoldable pub fd_filestat_get : Guest → ℕ → CallFront
fd_filestat_get g fd = do
  slot ← free (live_in (slice_get g.slots fd))
  filestat_of g slot

-- a number that isn't a preopen's is refused `badf`; the answer is the length of its name
unfoldable pub fd_prestat_get : Guest → ℕ → CallFront
fd_prestat_get g fd = tells g (or_refused errnos.Badf (name_at g.holdings.preopens (slice_get g.slots fd)))
    (λ name. Number (length name))

-- A number that isn't live is refused, and then one that isn't a preopen's, `notdir`; a name that is longer than the
-- range is refused `nametoolong`, and one that leaves the memory traps; then it stands there
unfoldable pub fd_prestat_dir_name : Guest → ℕ → ℕ → ℕ → CallFront
fd_prestat_dir_name g fd path path_len = do
  _ ← free (live_in (slice_get g.slots fd))
  name ← free (or_refused errnos.Notdir (name_at g.holdings.preopens (slice_get g.slots fd)))
  memory ← free (name_into g.memory path name path_len)
  answer (Nothing, record g { memory = memory })

-- a number that isn't live is refused; then what `to` stood for is closed, what stands under `from` gets its number,
-- and `from` is closed; of one number nothing changes
unfoldable pub fd_renumber : Guest → ℕ → ℕ → CallFront
fd_renumber g from to = do
  _ ← free (live_in (slice_get g.slots from))
  _ ← free (live_in (slice_get g.slots to))
  answer (Nothing, record g { slots = renumbered closed g.slots from to })
