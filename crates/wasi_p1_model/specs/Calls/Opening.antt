-- The specification of the call that opens a path.
use Rattle.std.specs.Prelude.{ℕ, slice_get}
use Rattle.wasi_fs.specs.Calls.{opens}
use Rattle.wasi_fs.specs.OpenHow.{may_open, mode_of}
use Rattle.wasi_p1_types.specs.Front.{CallFront, free, ask, charged_text, ◌>>=◌}
use Rattle.wasi_p1_types.specs.Guest.{Guest}
use Rattle.wasi_p1_types.specs.SpecParts.{directory_in, room_for, permit, opened_in}
use Rattle.wasi_p1_types.specs.RawFlags.{modes_in, modes_under, open_how}
use Rattle.wasi_p1_types.specs.Request.{Path}
use Rattle.wasi_p1_types.specs.Spending.{making}

-- An unknown bit is refused `inval`; then a text of more bytes than the fuel, `nomem`; a range that leaves the memory
-- traps; bytes that aren't a text are refused `ilseq`; then a number that isn't a directory's; one descriptor more than
-- may be live traps; then what isn't permitted below the directory; then, where a file
-- is to be made and no making is left, `dquot`; then as the walk of the text refuses, and the host
-- where it ends; then what isn't a directory and should be, `notdir`. The answer is the new descriptor's number
unfoldable pub path_open : Guest → ℕ → ℕ → ℕ → ℕ → ℕ → ℕ → ℕ → ℕ → CallFront
path_open g fd dirflags path len oflags base inheriting fdflags = do
  how ← free (open_how dirflags oflags base inheriting fdflags)
  text ← charged_text g.memory path len
  d ← free (directory_in (slice_get g.slots fd))
  _ ← free (room_for g.slots g.table_max 1)
  _ ← free (permit (may_open how d.perms))
  making how.create g (ask (Path (opens d.node text how))
      (opened_in g d.perms (mode_of how) (modes_under d.perms (modes_in fdflags))))
