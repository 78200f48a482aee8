-- What the crates below say of a node, as preview2 says it.
use Rattle.std.specs.Prelude.{pos, negsuc, ℤ, ℕ, Option, Some, None, Result, Ok, Err}
use Rattle.wasi_host.specs.declared.file_type.FileType.{FileType}
use Rattle.wasi_fs.specs.DescriptorStat.{descriptor_type}
use Rattle.wasi_fs.specs.declared.descriptor_stat.Datetime.{Datetime}
use Rattle.wasi_fs.specs.declared.descriptor_stat.DescriptorStat.{DescriptorStat as LowerStat}
use Rattle.wasi_fs.specs.declared.descriptor_stat.DescriptorType.{DescriptorType as LowerType}
use Rattle.wasi_fs.specs.declared.descriptor_stat.DescriptorType.TheVariants as lower
use Rattle.wasi_fs.specs.declared.metadata_hash.MetadataHashValue.{MetadataHashValue as LowerHash}
use Rattle.wasi_guest.specs.declared.guest_env.WallDatetime.{WallDatetime}
use Rattle.wasi_p2_types.specs.declared.descriptor_stat.DescriptorStat.{DescriptorStat}
use Rattle.wasi_p2_types.specs.declared.descriptor_stat.DescriptorType.{DescriptorType}
use Rattle.wasi_p2_types.specs.declared.descriptor_stat.DescriptorType.TheVariants as types
use Rattle.wasi_p2_types.specs.declared.descriptor_stat.MetadataHashValue.{MetadataHashValue}
use Rattle.wasi_p2_types.specs.declared.times.DatetimeError.{DatetimeError}

-- the type of the same name
abbrev pub type_named : LowerType → DescriptorType
type_named lower.Unknown = types.Unknown
type_named lower.BlockDevice = types.BlockDevice
type_named lower.CharacterDevice = types.CharacterDevice
type_named lower.Directory = types.Directory
type_named lower.SymbolicLink = types.SymbolicLink
type_named lower.RegularFile = types.RegularFile

abbrev pub kind_named : FileType → DescriptorType
kind_named kind = type_named (descriptor_type kind)

-- so many seconds after the epoch as a moment of the wall clock, which has none before it
abbrev pub wall_seconds : ℤ → ℕ → Result WallDatetime DatetimeError
wall_seconds (pos seconds) nanoseconds = Ok (record { seconds = seconds; nanoseconds = nanoseconds })
wall_seconds (negsuc seconds) nanoseconds = Err (record {})

abbrev pub wall_moment : Datetime → Result WallDatetime DatetimeError
wall_moment moment = wall_seconds moment.seconds moment.nanoseconds

-- the same moment; none where it is missing, or before the epoch
abbrev pub after_epoch : Result WallDatetime DatetimeError → Option WallDatetime
after_epoch (Ok moment) = Some moment
after_epoch (Err e) = None

abbrev pub moment_kept : Option Datetime → Option WallDatetime
moment_kept (Some moment) = after_epoch (wall_moment moment)
moment_kept None = None

-- the same, field by field
abbrev pub stat_named : LowerStat → DescriptorStat
stat_named stat = record {
  type_ = type_named stat.type_;
  link_count = stat.link_count;
  size = stat.size;
  data_access_timestamp = moment_kept stat.data_access_timestamp;
  data_modification_timestamp = moment_kept stat.data_modification_timestamp;
  status_change_timestamp = moment_kept stat.status_change_timestamp;
}

abbrev pub hash_named : LowerHash → MetadataHashValue
hash_named hash = record { lower = hash.lower; upper = hash.upper }
