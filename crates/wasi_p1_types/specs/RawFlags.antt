-- How a path is opened: what the flags and rights of `path_open` ask for.
use Rattle.std.specs.Prelude.{ℕ, Bool, ◌||◌, Option, Some, None, Ok, Err}
use Rattle.wasi_fs.specs.OpenHow.{OpenHow}
use Rattle.wasi_fs.specs.Perms.{is_append_only}
use Rattle.wasi_fs.specs.declared.perms.FsPerms.{FsPerms}
use Rattle.wasi_guest.specs.Flags as flag
use Rattle.wasi_guest.specs.Flags.{has, flags_in, known_lookupflags, known_oflags, known_fdflags, known_rights}
use Rattle.wasi_host.specs.Steps.{◌>>=◌}
use Rattle.wasi_guest.specs.declared.errno.Errno.TheVariants as errnos
use Rattle.wasi_p1_types.specs.CallResult.{CallResult, give}
use Rattle.wasi_p1_types.specs.declared.slots.FileModes.{FileModes}
use Rattle.wasi_p1_types.specs.declared.error.P1Error.TheVariants.{Errno}

-- what a raw number is or names, and refused where that is nothing, as a set of flags with an unknown bit is
abbrev pub or_inval : {A : Type 0} → Option A → CallResult A
or_inval (Some x) = Ok x
or_inval None = Err (Errno errnos.Inval)

-- what sets of flags and rights ask for; what a descriptor hands on asks for nothing, as no right is looked at again
abbrev pub how_by : ℕ → ℕ → ℕ → ℕ → OpenHow
how_by lookups oflags rights fdflags = record {
  follow = has lookups flag.symlink_follow;
  create = has oflags flag.creat;
  directory = has oflags flag.directory;
  exclusive = has oflags flag.excl;
  truncate = has oflags flag.trunc;
  read = has rights flag.fd_read;
  write = has rights flag.fd_write;
  sync = has fdflags flag.sync || has fdflags flag.dsync || has fdflags flag.rsync;
}

-- the same of raw numbers: an unknown bit in any of them is refused `inval`
unfoldable pub open_how : ℕ → ℕ → ℕ → ℕ → ℕ → CallResult OpenHow
open_how dirflags oflags base inheriting fdflags = do
  lookups ← or_inval (flags_in known_lookupflags dirflags)
  flags ← or_inval (flags_in known_oflags oflags)
  rights ← or_inval (flags_in known_rights base)
  _ ← or_inval (flags_in known_rights inheriting)
  modes ← or_inval (flags_in known_fdflags fdflags)
  give (how_by lookups flags rights modes)

-- how a file's descriptor is used, by its flags
abbrev pub modes_in : ℕ → FileModes
modes_in fdflags = record { append = has fdflags flag.append; nonblock = has fdflags flag.nonblock }

-- under append-only permissions a file is always appended to
abbrev pub modes_under : FsPerms → FileModes → FileModes
modes_under perms modes = record modes { append = modes.append || is_append_only perms }

-- whether a link under the last name is followed, by a raw number
unfoldable pub follow_asked : ℕ → CallResult Bool
follow_asked flags = or_inval (flags_in known_lookupflags flags) >>= (λ set. give (has set flag.symlink_follow))
