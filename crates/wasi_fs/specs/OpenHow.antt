-- How a path is opened: what the flags of an open ask for.
use Rattle.std.specs.Prelude.{ℕ, Bool, true, false, not, ◌&&◌, ◌||◌, List, [], ◌∷◌, Option}
use Rattle.wasi_host.specs.Options.{Options, no_options}
use Rattle.wasi_host.specs.Refusal.{first_rule}
use Rattle.wasi_host.specs.declared.errors.ErrorCode.{ErrorCode}
use Rattle.wasi_host.specs.declared.errors.ErrorCode.TheVariants as codes
use Rattle.wasi_host.specs.declared.open_options.FollowSymlinks.{FollowSymlinks}
use Rattle.wasi_host.specs.declared.open_options.FollowSymlinks.TheVariants.{Yes, No}
use Rattle.wasi_fs.specs.OpenFlags.{path_flag_bits, open_flag_bits, descriptor_flag_bits, includes}
use Rattle.wasi_fs.specs.OpenMode.{mode_for}
use Rattle.wasi_fs.specs.Perms.{permits}
use Rattle.wasi_fs.specs.declared.open_flags.PathFlags.{PathFlags}
use Rattle.wasi_fs.specs.declared.open_flags.OpenFlags.{OpenFlags}
use Rattle.wasi_fs.specs.declared.open_flags.DescriptorFlags.{DescriptorFlags}
use Rattle.wasi_fs.specs.declared.open_mode.OpenMode.{OpenMode}
use Rattle.wasi_fs.specs.declared.perms.Act.TheVariants.{Make, Append, Alter}
use Rattle.wasi_fs.specs.declared.perms.FsPerms.{FsPerms}

-- `sync` is any of the flags of integrity
pub record OpenHow : Type 0 where
  pub follow : Bool
  pub create : Bool
  pub directory : Bool
  pub exclusive : Bool
  pub truncate : Bool
  pub read : Bool
  pub write : Bool
  pub sync : Bool

abbrev has_path_flag : PathFlags → ℕ → Bool
has_path_flag set flag = includes (path_flag_bits set) flag

abbrev has_open_flag : OpenFlags → ℕ → Bool
has_open_flag set flag = includes (open_flag_bits set) flag

abbrev has_descriptor_flag : DescriptorFlags → ℕ → Bool
has_descriptor_flag set flag = includes (descriptor_flag_bits set) flag

-- a link under the last name is followed: SYMLINK_FOLLOW
abbrev pub is_followed : PathFlags → Bool
is_followed flags = has_path_flag flags 1

-- What the flags ask for: CREATE, DIRECTORY, EXCLUSIVE and TRUNCATE; READ and WRITE; and any of FILE_INTEGRITY_SYNC,
-- DATA_INTEGRITY_SYNC and REQUESTED_WRITE_SYNC. MUTATE_DIRECTORY, which is 32, asks for nothing
abbrev pub how_of : PathFlags → OpenFlags → DescriptorFlags → OpenHow
how_of path_flags open_flags flags = record {
  follow = is_followed path_flags;
  create = has_open_flag open_flags 1;
  directory = has_open_flag open_flags 2;
  exclusive = has_open_flag open_flags 4;
  truncate = has_open_flag open_flags 8;
  read = has_descriptor_flag flags 1;
  write = has_descriptor_flag flags 2;
  sync = has_descriptor_flag flags 4 || has_descriptor_flag flags 8 || has_descriptor_flag flags 16;
}

-- it creates, writes or truncates, which isn't permitted
abbrev pub is_unpermitted : OpenHow → FsPerms → Bool
is_unpermitted how perms = (how.create && not (permits perms Make)) || (how.write && not (permits perms Append))
    || (how.truncate && not (permits perms Alter))

-- what is refused of an open below a directory of these permissions, before its path is looked at
abbrev pub open_rules : OpenHow → FsPerms → List (Bool × ErrorCode)
open_rules how perms =
    (how.sync, codes.Unsupported)
    ∷ (how.directory && (how.create || how.exclusive || how.truncate), codes.Invalid)
    ∷ (is_unpermitted how perms, codes.NotPermitted)
    ∷ []

-- the code of the first of these rules that holds
unfoldable pub may_open : OpenHow → FsPerms → Option ErrorCode
may_open how perms = first_rule (open_rules how perms)

abbrev pub follow_of : Bool → FollowSymlinks
follow_of true = Yes
follow_of false = No

-- without WRITE it is opened for reading
abbrev pub reads : OpenHow → Bool
reads how = how.read || not how.write

-- what makes or cuts a file opens it for writing too
abbrev pub writes : OpenHow → Bool
writes how = how.write || how.create || how.truncate

-- The options of the path's open. A file is made exclusively only where it is to be made. That a directory is asked for
-- is no option: it is looked at after the open
abbrev pub options_of : OpenHow → Options
options_of how = record no_options {
  read = reads how;
  write = writes how;
  truncate = how.truncate;
  create = how.create && not how.exclusive;
  create_new = how.create && how.exclusive;
  follow = follow_of how.follow;
}

-- what the new descriptor may be used for: the reading and writing that its options ask for
abbrev pub mode_of : OpenHow → OpenMode
mode_of how = mode_for (options_of how).read (options_of how).write

-- the code that says that a host failed
abbrev pub is_io : ErrorCode → Bool
is_io codes.Io = true
is_io code = false
