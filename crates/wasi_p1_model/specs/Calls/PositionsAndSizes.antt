-- The specifications of the calls on a file's position, on its size, and on how it is stored.
use Rattle.std.specs.Prelude.{ℕ, slice_get, ℤ, Option, None, Err}
use Rattle.wasi_fs.specs.Calls.{may_do}
use Rattle.wasi_fs.specs.declared.perms.Act.TheVariants.{Alter}
use Rattle.wasi_guest.specs.Enums.{advice_of, whence_of}
use Rattle.wasi_guest.specs.declared.answer.Value.TheVariants.{Number}
use Rattle.wasi_guest.specs.declared.errno.Errno.TheVariants as errnos
use Rattle.wasi_host.specs.HostCall.{Advise, SetSize, Stat, Sync}
use Rattle.wasi_p1_types.specs.Files.{base_in, file_in, host_advice, position_from, sought}
use Rattle.wasi_p1_types.specs.Front.{CallFront, free, done_if, known_or_asked, tells, ◌>>=◌}
use Rattle.wasi_p1_types.specs.Guest.{Guest, OpenFile}
use Rattle.wasi_p1_types.specs.SpecParts.{held_by}
use Rattle.wasi_p1_types.specs.Quotas.{allowance}
use Rattle.wasi_p1_types.specs.RawFlags.{or_inval}
use Rattle.wasi_p1_types.specs.Request.{Direct}
use Rattle.wasi_p1_types.specs.Spending.{growing}
use Rattle.wasi_p1_types.specs.declared.error.P1Error.TheVariants.{Errno}
use Rattle.wasi_p1_types.specs.declared.usage.FileUse.TheVariants.{Itself, Position}

-- An unknown advice is refused `inval`; then a number that isn't a file's. No host refuses it
unfoldable pub fd_advise : Guest → ℕ → ℕ → ℕ → ℕ → CallFront
fd_advise g fd offset len advice = do
  how ← free (or_inval (advice_of advice))
  f ← free (file_in Itself (slice_get g.slots fd))
  done_if None (Direct (Advise f.node offset len (host_advice how))) g

-- a number that isn't a file's is refused, and every file's `notsup`
unfoldable pub fd_allocate : Guest → ℕ → ℕ → ℕ → CallFront
fd_allocate g fd offset len = do
  _ ← free (file_in Itself (slice_get g.slots fd))
  free (Err (Errno errnos.Notsup))

-- a number that isn't a file's is refused; no host refuses it
abbrev pub stored : Guest → ℕ → CallFront
stored g fd = do
  f ← free (file_in Itself (slice_get g.slots fd))
  done_if None (Direct (Sync f.node)) g

unfoldable pub fd_datasync : Guest → ℕ → CallFront
fd_datasync g fd = stored g fd

unfoldable pub fd_sync : Guest → ℕ → CallFront
fd_sync g fd = stored g fd

-- a number that isn't a file's is refused; then what isn't permitted of it; then what passes the bound on bytes,
-- `dquot`; and as its host does
unfoldable pub fd_filestat_set_size : Guest → ℕ → ℕ → CallFront
fd_filestat_set_size g fd size = do
  f ← free (file_in Itself (slice_get g.slots fd))
  growing (allowance g.holdings f.open_mode) (done_if (may_do f.perms Alter) (Direct (SetSize (held_by f) size)) g)

-- the position is so far from the start or from where it was; or from the end, for which the host is asked
abbrev pub seek_from : Guest → ℕ → OpenFile → ℤ → Option ℕ → CallFront
seek_from g fd f offset base = known_or_asked base (λ from. position_from from offset) (Direct (Stat f.node))
    (λ metadata. position_from metadata.size offset) (sought g fd f)

-- An unknown number of a place is refused `inval`; then a stream `spipe`, and what else isn't a file's `badf`; then a
-- position below 0, or of more than 64 bits, `inval`. The answer is the position
unfoldable pub fd_seek : Guest → ℕ → ℤ → ℕ → CallFront
fd_seek g fd offset whence = do
  place ← free (or_inval (whence_of whence))
  f ← free (file_in Position (slice_get g.slots fd))
  seek_from g fd f offset (base_in f.position place)

-- the position
unfoldable pub fd_tell : Guest → ℕ → CallFront
fd_tell g fd = tells g (file_in Position (slice_get g.slots fd)) (λ f. Number f.position)
