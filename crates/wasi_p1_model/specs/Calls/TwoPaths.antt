-- The specifications of the calls at the places that two paths name.
use Rattle.std.specs.Prelude.{ℕ, slice_get, Option}
use Rattle.wasi_fs.specs.Calls.{may_rename, may_add_name}
use Rattle.wasi_fs.specs.declared.perms.FsPerms.{FsPerms}
use Rattle.wasi_host.specs.declared.errors.ErrorCode.{ErrorCode}
use Rattle.wasi_p1_types.specs.Front.{CallFront, free, charged_text, done_if, ◌>>=◌}
use Rattle.wasi_p1_types.specs.Guest.{Guest}
use Rattle.wasi_p1_types.specs.SpecParts.{start_in}
use Rattle.wasi_p1_types.specs.RawFlags.{follow_asked}
use Rattle.wasi_p1_types.specs.Request.{Path}
use Rattle.wasi_resolve.specs.TwoPathOps.{TwoPathOp, HardLink, Rename}
use Rattle.wasi_resolve.specs.PathRequest.{AtTwo}

-- A number that isn't a directory's is refused, the old one first, and the texts so; then what isn't permitted below
-- the two directories; then as the walks of the texts refuse, the old one first, and the host at the places
abbrev pub done_between : Guest → ℕ → ℕ → ℕ → ℕ → ℕ → ℕ → (FsPerms → FsPerms → Option ErrorCode) → TwoPathOp
    → CallFront
done_between g old_fd old_path old_len new_fd new_path new_len own what = do
  old ← free (start_in (slice_get g.slots old_fd))
  new ← free (start_in (slice_get g.slots new_fd))
  old_text ← charged_text g.memory old_path old_len
  new_text ← charged_text g.memory new_path new_len
  done_if (own old.perms new.perms) (Path (AtTwo old.node old_text new.node new_text what)) g

-- an unknown bit is refused `inval` before all, and a link that is to be followed in its place
unfoldable pub path_link : Guest → ℕ → ℕ → ℕ → ℕ → ℕ → ℕ → ℕ → CallFront
path_link g old_fd old_flags old_path old_len new_fd new_path new_len = do
  follow ← free (follow_asked old_flags)
  done_between g old_fd old_path old_len new_fd new_path new_len (λ old new. may_add_name old new follow) HardLink

unfoldable pub path_rename : Guest → ℕ → ℕ → ℕ → ℕ → ℕ → ℕ → CallFront
path_rename g old_fd old_path old_len new_fd new_path new_len =
    done_between g old_fd old_path old_len new_fd new_path new_len may_rename Rename
