-- What is said of a descriptor's node.
use Rattle.std.specs.Prelude.{◌≡◌, Some}
use Rattle.wasi_host.specs.declared.file_type.FileType.{FileType}
use Rattle.wasi_host.specs.declared.file_type.FileType.TheVariants as files
use Rattle.wasi_host.specs.declared.metadata.Metadata.{Metadata}
use Rattle.wasi_host.specs.declared.system_time.SystemTime.{SystemTime}
use Rattle.wasi_fs.specs.declared.descriptor_stat.Datetime.{Datetime}
use Rattle.wasi_fs.specs.declared.descriptor_stat.DescriptorStat.{DescriptorStat}
use Rattle.wasi_fs.specs.declared.descriptor_stat.DescriptorType.{DescriptorType}
use Rattle.wasi_fs.specs.declared.descriptor_stat.DescriptorType.TheVariants as descriptors

-- the type of the same name
abbrev pub descriptor_type : FileType → DescriptorType
descriptor_type files.Directory = descriptors.Directory
descriptor_type files.RegularFile = descriptors.RegularFile
descriptor_type files.SymbolicLink = descriptors.SymbolicLink
descriptor_type files.CharacterDevice = descriptors.CharacterDevice
descriptor_type files.BlockDevice = descriptors.BlockDevice
descriptor_type files.Unknown = descriptors.Unknown

-- the same moment
abbrev pub datetime : SystemTime → Datetime
datetime time = record { seconds = time.seconds; nanoseconds = time.nanoseconds }

-- the time of the last change of status is that of creation
abbrev pub descriptor_stat : Metadata → DescriptorStat
descriptor_stat metadata = record {
  type_ = descriptor_type metadata.kind;
  link_count = metadata.links;
  size = metadata.size;
  data_access_timestamp = Some (datetime metadata.atime);
  data_modification_timestamp = Some (datetime metadata.mtime);
  status_change_timestamp = Some (datetime metadata.btime);
}

-- it is said of some node
abbrev pub IsStat : DescriptorStat → Type 0
IsStat stat = (metadata : Metadata) × (stat ≡ descriptor_stat metadata)
