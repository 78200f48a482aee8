-- The calls at a path below the directory of a resource.
use Rattle.std.specs.Prelude.{◌≡◌, ◌<◌, ◌≤◌, ℕ, false, List, length, None, Result, IfOk}
use Rattle.std.specs.String.{string_bytes}
use Rattle.std.specs.declared.alloc.Global.{Global}
use Rattle.std.specs.declared.string.String.{String}
use Rattle.wasi_paths.specs.Parts.{has_root}
use Rattle.wasi_host.specs.declared.errors.HostError.{HostError}
use Rattle.wasi_host.specs.declared.host.Host.{Ghosts}
use Rattle.wasi_resolve.specs.EntryOps.{CreateDir, RemoveFile, RemoveDir, Symlink, ReadLink}
use Rattle.wasi_resolve.specs.TwoPathOps.{HardLink, Rename}
use Rattle.wasi_resolve.specs.PathRequest.{AtEntry, AtTwo, meant_by}
use Rattle.wasi_fs.specs.Calls.{may_do, may_link, may_add_name, may_rename, looks, meant_as, sets_times}
use Rattle.wasi_fs.specs.DescriptorStat.{descriptor_stat, IsStat}
use Rattle.wasi_fs.specs.MetadataHash.{metadata_hash, IsHash}
use Rattle.wasi_fs.specs.OpenHow.{is_followed}
use Rattle.wasi_fs.specs.declared.descriptor.Dir.{Dir}
use Rattle.wasi_p2_types.specs.FlagNames.{path_flags_named}
use Rattle.wasi_p2_calls.specs.Resources.{both_found, directory_at}
use Rattle.wasi_p2_types.specs.Stats.{stat_named, hash_named}
use Rattle.wasi_p2_calls.specs.Timed.{timed_by}
use Rattle.wasi_p2_calls.specs.Views.{Files, CallsOn, LooksFrom, LooksFromBoth, Performs, node_held, tree_in}
use Rattle.wasi_p2_types.specs.declared.error.FsError.{FsError}
use Rattle.wasi_p2_types.specs.declared.descriptor_stat.DescriptorStat.{DescriptorStat}
use Rattle.wasi_p2_types.specs.declared.descriptor_stat.MetadataHashValue.{MetadataHashValue}
use Rattle.wasi_p2_types.specs.declared.flags.PathFlags.{PathFlags}
use Rattle.wasi_p2_types.specs.declared.times.NewTimestamp.{NewTimestamp}
use Rattle.wasi_fs.specs.declared.perms.Act.TheVariants.{Make, Alter}

-- a call below the directory of a resource
abbrev pub BelowIt : {H A B : Type 0} → Ghosts H → Files H → Files H → ℕ → (A → B) → (Dir → Result A HostError → Type 0)
    → Result B FsError → Type 0
BelowIt host old new fd shown Did result =
    CallsOn host old new (LooksFrom old.table.entries fd) (directory_at old.table.entries fd) shown Did result

-- `create_directory_at`
abbrev pub CreatesDirectory : {H : Type 0} → Ghosts H → Files H → Files H → ℕ → List ℕ → Result (Unit {0}) FsError → Type 0
CreatesDirectory host old new fd path result = BelowIt host old new fd (λ unit. unit) (λ dir answer.
    Performs host old.ctx.host new.ctx.host (may_do dir.perms Make)
    (meant_by (tree_in host old) (AtEntry (node_held host old dir.dir) path CreateDir)) (λ unit. unit) answer) result

-- `remove_directory_at`
abbrev pub RemovesDirectory : {H : Type 0} → Ghosts H → Files H → Files H → ℕ → List ℕ → Result (Unit {0}) FsError → Type 0
RemovesDirectory host old new fd path result = BelowIt host old new fd (λ unit. unit) (λ dir answer.
    Performs host old.ctx.host new.ctx.host (may_do dir.perms Alter)
    (meant_by (tree_in host old) (AtEntry (node_held host old dir.dir) path RemoveDir)) (λ unit. unit) answer) result

-- `unlink_file_at`
abbrev pub UnlinksFile : {H : Type 0} → Ghosts H → Files H → Files H → ℕ → List ℕ → Result (Unit {0}) FsError → Type 0
UnlinksFile host old new fd path result = BelowIt host old new fd (λ unit. unit) (λ dir answer.
    Performs host old.ctx.host new.ctx.host (may_do dir.perms Alter)
    (meant_by (tree_in host old) (AtEntry (node_held host old dir.dir) path RemoveFile)) (λ unit. unit) answer) result

-- `symlink_at`, of a link with this text
abbrev pub MakesLink : {H : Type 0} → Ghosts H → Files H → Files H → ℕ → List ℕ → List ℕ → Result (Unit {0}) FsError → Type 0
MakesLink host old new fd path target result = BelowIt host old new fd (λ unit. unit) (λ dir answer.
    Performs host old.ctx.host new.ctx.host (may_link dir.perms target)
    (meant_by (tree_in host old) (AtEntry (node_held host old dir.dir) path (Symlink target))) (λ unit. unit) answer) result

-- a text that was read of a link: some bytes, no more than a link has, and no root
pub record IsReadText (text : String Global) : Type 0 where
  pub some : 0 < length (string_bytes text)
  pub most : length (string_bytes text) ≤ 4095
  pub unrooted : has_root (string_bytes text) ≡ false

-- `readlink_at`
abbrev pub TellsLink : {H : Type 0} → Ghosts H → Files H → Files H → ℕ → List ℕ → Result (String Global) FsError → Type 0
TellsLink host old new fd path result = BelowIt host old new fd (λ text. text) (λ dir answer.
    IfOk answer IsReadText × Performs host old.ctx.host new.ctx.host None
    (meant_by (tree_in host old) (AtEntry (node_held host old dir.dir) path ReadLink)) string_bytes answer) result

-- `stat_at`
abbrev pub StatsAt : {H : Type 0} → Ghosts H → Files H → Files H → ℕ → PathFlags → List ℕ → Result DescriptorStat FsError
    → Type 0
StatsAt host old new fd flags path result = BelowIt host old new fd stat_named (λ dir answer.
    IfOk answer IsStat × Performs host old.ctx.host new.ctx.host None
    (meant_as descriptor_stat (meant_by (tree_in host old)
    (looks (node_held host old dir.dir) path (path_flags_named flags)))) (λ stat. stat) answer) result

-- `metadata_hash_at`
abbrev pub HashesAt : {H : Type 0} → Ghosts H → Files H → Files H → ℕ → PathFlags → List ℕ
    → Result MetadataHashValue FsError → Type 0
HashesAt host old new fd flags path result = BelowIt host old new fd hash_named (λ dir answer.
    IfOk answer IsHash × Performs host old.ctx.host new.ctx.host None
    (meant_as metadata_hash (meant_by (tree_in host old)
    (looks (node_held host old dir.dir) path (path_flags_named flags)))) (λ hash. hash) answer) result

-- `set_times_at`
abbrev pub SetsTimesAt : {H : Type 0} → Ghosts H → Files H → Files H → ℕ → PathFlags → List ℕ → NewTimestamp
    → NewTimestamp → Result (Unit {0}) FsError → Type 0
SetsTimesAt host old new fd flags path atim mtim result = CallsOn host old new (LooksFrom old.table.entries fd)
    (timed_by (directory_at old.table.entries fd) old.ctx.now atim mtim) (λ unit. unit) (λ found answer.
    Performs host old.ctx.host new.ctx.host (may_do found.0.perms Alter)
    (meant_by (tree_in host old)
    (sets_times (node_held host old found.0.dir) path (path_flags_named flags) found.1.0 found.1.1)) (λ unit. unit) answer)
    result

-- `link_at`
abbrev pub LinksAt : {H : Type 0} → Ghosts H → Files H → Files H → ℕ → PathFlags → List ℕ → ℕ → List ℕ
    → Result (Unit {0}) FsError → Type 0
LinksAt host old new fd flags old_path new_fd new_path result =
    CallsOn host old new (LooksFromBoth old.table.entries fd new_fd)
    (both_found (directory_at old.table.entries fd) (directory_at old.table.entries new_fd)) (λ unit. unit)
    (λ dirs answer. Performs host old.ctx.host new.ctx.host
    (may_add_name dirs.0.perms dirs.1.perms (is_followed (path_flags_named flags)))
    (meant_by (tree_in host old)
    (AtTwo (node_held host old dirs.0.dir) old_path (node_held host old dirs.1.dir) new_path HardLink))
    (λ unit. unit) answer) result

-- `rename_at`
abbrev pub RenamesAt : {H : Type 0} → Ghosts H → Files H → Files H → ℕ → List ℕ → ℕ → List ℕ → Result (Unit {0}) FsError
    → Type 0
RenamesAt host old new fd old_path new_fd new_path result =
    CallsOn host old new (LooksFromBoth old.table.entries fd new_fd)
    (both_found (directory_at old.table.entries fd) (directory_at old.table.entries new_fd)) (λ unit. unit)
    (λ dirs answer. Performs host old.ctx.host new.ctx.host (may_rename dirs.0.perms dirs.1.perms)
    (meant_by (tree_in host old)
    (AtTwo (node_held host old dirs.0.dir) old_path (node_held host old dirs.1.dir) new_path Rename))
    (λ unit. unit) answer) result
