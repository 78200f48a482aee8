-- What `path_filestat_get` and `fd_filestat_get` tell of a node.
use Rattle.std.specs.Prelude.{ℕ, ◌≡◌, ◌+◌, ◌*◌, ◌^◌, ℤ, pos, negsuc, nat_lt, if◌then◌else◌, Option, Some, None, Ok, Err}
use Rattle.wasi_fs.specs.declared.descriptor_stat.Datetime.{Datetime}
use Rattle.wasi_fs.specs.declared.descriptor_stat.DescriptorType.{DescriptorType}
use Rattle.wasi_fs.specs.declared.descriptor_stat.DescriptorType.TheVariants as descriptors
use Rattle.wasi_fs.specs.DescriptorStat.{descriptor_stat}
use Rattle.wasi_fs.specs.MetadataHash.{metadata_hash}
use Rattle.wasi_host.specs.declared.metadata.Metadata.{Metadata}
use Rattle.wasi_p1_types.specs.declared.looked.StatBoth.{StatBoth}
use Rattle.wasi_guest.specs.FiletypeNumber.{filetype_number}
use Rattle.wasi_guest.specs.declared.filestat.Filestat.{Filestat}
use Rattle.wasi_guest.specs.declared.filetype.Filetype.{Filetype}
use Rattle.wasi_guest.specs.declared.filetype.Filetype.TheVariants as filetypes
use Rattle.wasi_guest.specs.declared.errno.Errno.TheVariants as errnos
use Rattle.wasi_host.specs.Steps.{◌>>=◌}
use Rattle.wasi_p1_types.specs.CallResult.{CallResult, give}
use Rattle.wasi_p1_types.specs.declared.error.P1Error.TheVariants.{Errno}

-- what is told of one node
abbrev pub stat_both : Metadata → StatBoth
stat_both metadata = record { stat = descriptor_stat metadata; hash = metadata_hash metadata }

-- some host told it
abbrev pub IsStated : StatBoth → Type 0
IsStated both = (metadata : Metadata) × (both ≡ stat_both metadata)

-- the type of the same name
abbrev pub filetype_of : DescriptorType → Filetype
filetype_of descriptors.Unknown = filetypes.Unknown
filetype_of descriptors.BlockDevice = filetypes.BlockDevice
filetype_of descriptors.CharacterDevice = filetypes.CharacterDevice
filetype_of descriptors.Directory = filetypes.Directory
filetype_of descriptors.SymbolicLink = filetypes.SymbolicLink
filetype_of descriptors.RegularFile = filetypes.RegularFile

-- so many nanoseconds after the epoch, none before it
abbrev pub since_epoch : ℤ → ℕ → ℕ
since_epoch (pos seconds) nanoseconds = seconds * 10 ^ 9 + nanoseconds
since_epoch (negsuc seconds) nanoseconds = 0

abbrev pub or_overflow : ℕ → CallResult ℕ
or_overflow n = if nat_lt n (2 ^ 64) then Ok n else Err (Errno errnos.Overflow)

-- a moment in nanoseconds, of which 64 bits hold no more than some 584 years; a time that isn't kept is the epoch
abbrev pub nanoseconds_in : Option Datetime → CallResult ℕ
nanoseconds_in (Some moment) = or_overflow (since_epoch moment.seconds moment.nanoseconds)
nanoseconds_in None = Ok 0

-- nothing is told of a standard stream
abbrev pub stream_filestat : Filestat
stream_filestat =
    record { dev = 0; ino = 0; filetype = 0; nlink = 0; size = 0; atim = 0; mtim = 0; ctim = 0 }

-- there is one device; a time past what 64 bits hold is refused `overflow`
unfoldable pub filestat_in : StatBoth → CallResult Filestat
filestat_in both = do
  atim ← nanoseconds_in both.stat.data_access_timestamp
  mtim ← nanoseconds_in both.stat.data_modification_timestamp
  ctim ← nanoseconds_in both.stat.status_change_timestamp
  give (record {
    dev = 1;
    ino = both.hash.lower;
    filetype = filetype_number (filetype_of both.stat.type_);
    nlink = both.stat.link_count;
    size = both.stat.size;
    atim = atim;
    mtim = mtim;
    ctim = ctim;
  })
