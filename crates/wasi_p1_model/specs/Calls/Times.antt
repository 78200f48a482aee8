-- The specifications of the calls that set times.
use Rattle.std.specs.Prelude.{ℕ, slice_get}
use Rattle.wasi_fs.specs.Calls.{may_do}
use Rattle.wasi_fs.specs.declared.perms.Act.TheVariants.{Alter}
use Rattle.wasi_host.specs.HostCall.{SetTimes}
use Rattle.wasi_p1_types.specs.Front.{CallFront, free, at_path, done_if, ◌>>=◌}
use Rattle.wasi_p1_types.specs.Guest.{Guest}
use Rattle.wasi_p1_types.specs.NewTimes.{times_asked}
use Rattle.wasi_p1_types.specs.SpecParts.{open_node_in}
use Rattle.wasi_p1_types.specs.RawFlags.{follow_asked}
use Rattle.wasi_p1_types.specs.Request.{Path, Direct}
use Rattle.wasi_resolve.specs.PathRequest.{TimesPath}

-- An unknown flag is refused `inval`; then of each time, in order, one that is both given and the wall clock's, and a
-- wall clock past what a time holds, where it is asked for, `overflow`; then a number that isn't a directory's or
-- file's; then what isn't permitted of it. No host refuses it
unfoldable pub fd_filestat_set_times : Guest → ℕ → ℕ → ℕ → ℕ → CallFront
fd_filestat_set_times g fd atim mtim fst_flags = do
  times ← free (times_asked g.holdings.wall atim mtim fst_flags)
  n ← free (open_node_in (slice_get g.slots fd))
  done_if (may_do n.perms Alter) (Direct (SetTimes n.node times.atime times.mtime)) g

-- An unknown bit is refused `inval`; then the times as by a number; then as what is done at a place, where a link under
-- the last name is followed if that is asked
unfoldable pub path_filestat_set_times : Guest → ℕ → ℕ → ℕ → ℕ → ℕ → ℕ → ℕ → CallFront
path_filestat_set_times g fd flags path len atim mtim fst_flags = do
  follow ← free (follow_asked flags)
  times ← free (times_asked g.holdings.wall atim mtim fst_flags)
  at_path g fd path len (λ d text.
      done_if (may_do d.perms Alter) (Path (TimesPath d.node text follow times.atime times.mtime)) g)
