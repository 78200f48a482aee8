-- The specifications of the calls at the place that a path names.
use Rattle.std.specs.Prelude.{ℕ, true, take, slice_get}
use Rattle.wasi_fs.specs.Calls.{may_do, may_link}
use Rattle.wasi_fs.specs.declared.perms.Act.{Act}
use Rattle.wasi_fs.specs.declared.perms.Act.TheVariants.{Make, Alter}
use Rattle.wasi_p1_types.specs.Front.{CallFront, free, ask, charged_text, at_path, done_if, ◌>>=◌}
use Rattle.wasi_p1_types.specs.Guest.{Guest}
use Rattle.wasi_p1_types.specs.SpecParts.{start_in, link_into, told_of}
use Rattle.wasi_p1_types.specs.RawFlags.{follow_asked}
use Rattle.wasi_p1_types.specs.Request.{Path}
use Rattle.wasi_p1_types.specs.Spending.{making}
use Rattle.wasi_resolve.specs.EntryOps.{EntryOp, CreateDir, RemoveFile, RemoveDir, Symlink, ReadLink}
use Rattle.wasi_resolve.specs.PathRequest.{LookPath, AtEntry}

-- an act that isn't permitted below the directory is refused; then as the walk of the text refuses, and the host at its
-- place
abbrev pub done_at : Guest → ℕ → ℕ → ℕ → Act → EntryOp → CallFront
done_at g fd path len act what =
    at_path g fd path len (λ d text. done_if (may_do d.perms act) (Path (AtEntry d.node text what)) g)

-- where no making is left, it is refused `dquot` before the walk
unfoldable pub path_create_directory : Guest → ℕ → ℕ → ℕ → CallFront
path_create_directory g fd path len = making true g (done_at g fd path len Make CreateDir)

-- An unknown bit is refused `inval`; then the path; then as the look at it refuses; then a time that 64 bits of
-- nanoseconds don't hold, `overflow`. The answer is what is told of the node
unfoldable pub path_filestat_get : Guest → ℕ → ℕ → ℕ → ℕ → CallFront
path_filestat_get g fd flags path len = do
  follow ← free (follow_asked flags)
  at_path g fd path len (λ d text. ask (Path (LookPath d.node text follow)) (told_of g))

-- As the walk of the text refuses, and the host at its place, and a text with a root; then a range that leaves the
-- memory traps, as long as the link's text and no longer than the buffer. The answer is its length, and that much of
-- the link's text stands there
unfoldable pub path_readlink : Guest → ℕ → ℕ → ℕ → ℕ → ℕ → CallFront
path_readlink g fd path len buf buf_len = at_path g fd path len
    (λ d text. ask (Path (AtEntry d.node text ReadLink)) (λ link. link_into g buf (take buf_len link)))

unfoldable pub path_remove_directory : Guest → ℕ → ℕ → ℕ → CallFront
path_remove_directory g fd path len = done_at g fd path len Alter RemoveDir

unfoldable pub path_unlink_file : Guest → ℕ → ℕ → ℕ → CallFront
path_unlink_file g fd path len = done_at g fd path len Alter RemoveFile

-- as what is done at a place, with the text of the link read before that of the path, and one with a root not
-- permitted; where no making is left, it is refused `dquot` before the walk
unfoldable pub path_symlink : Guest → ℕ → ℕ → ℕ → ℕ → ℕ → CallFront
path_symlink g old_path old_len fd new_path new_len = do
  d ← free (start_in (slice_get g.slots fd))
  target ← charged_text g.memory old_path old_len
  text ← charged_text g.memory new_path new_len
  making true g (done_if (may_link d.perms target) (Path (AtEntry d.node text (Symlink target))) g)
