-- The specification of the call that lists a directory.
use Rattle.std.specs.Prelude.{ℕ, slice_get}
use Rattle.wasi_p1_types.specs.Front.{CallFront, free, ask, ◌>>=◌}
use Rattle.wasi_p1_types.specs.Guest.{Guest}
use Rattle.wasi_p1_model.specs.Pages.{page}
use Rattle.wasi_p1_types.specs.SpecParts.{start_in, room_for, link_into}
use Rattle.wasi_p1_types.specs.Request.{ListDirectory}

-- A number that isn't a directory's is refused `badf`; then a descriptor more than may be live traps; then as the
-- listing is refused. The records from the cookie on are put into the buffer, as far as it takes them: a range that
-- leaves the memory traps, as long as what is put there. The answer is its length
unfoldable pub fd_readdir : Guest → ℕ → ℕ → ℕ → ℕ → CallFront
fd_readdir g fd buf buf_len cookie = do
  d ← free (start_in (slice_get g.slots fd))
  _ ← free (room_for g.slots g.table_max 1)
  ask (ListDirectory d.node) (λ listing. link_into g buf (page listing cookie buf_len))
