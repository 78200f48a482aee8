-- What is told of a descriptor: the number of its type, its flags as bits, and its rights as bits, for it and for what
-- is opened below it.
use Rattle.std.specs.Prelude.{ℕ, ◌+◌, ◌-◌, if◌then◌else◌}
use Rattle.wasi_fs.specs.DescriptorStat.{descriptor_type}
use Rattle.wasi_fs.specs.OpenFlags.{includes}
use Rattle.wasi_fs.specs.OpenMode.{mode_bits}
use Rattle.wasi_fs.specs.declared.descriptor_stat.DescriptorType.{DescriptorType}
use Rattle.wasi_fs.specs.declared.open_mode.OpenMode.{OpenMode}
use Rattle.wasi_guest.specs.FiletypeNumber.{filetype_number}
use Rattle.wasi_guest.specs.declared.fdstat.Fdstat.{Fdstat}
use Rattle.wasi_host.specs.declared.metadata.Metadata.{Metadata}
use Rattle.wasi_p1_types.specs.Filestats.{filetype_of}
use Rattle.wasi_p1_types.specs.Guest.{OpenFile}
use Rattle.wasi_p1_types.specs.declared.slots.FileModes.{FileModes}
use Rattle.wasi_p1_types.specs.declared.slots.Stream.{Stream as StandardStream}
use Rattle.wasi_p1_types.specs.declared.slots.Stream.TheVariants as streams

-- FD_READ of the standard input, FD_WRITE of an output; a stream's type is unknown
abbrev pub stream_fdstat : StandardStream → Fdstat
stream_fdstat streams.Input = record { filetype = 0; flags = 0; base = 2; inheriting = 2 }
stream_fdstat streams.Output = record { filetype = 0; flags = 0; base = 64; inheriting = 64 }
stream_fdstat streams.Error = record { filetype = 0; flags = 0; base = 64; inheriting = 64 }

-- of a directory that the guest was given: for it the rights of calls on directories and at paths, and for what is opened
-- below it all rights; but for PATH_FILESTAT_SET_SIZE in both, and those of sockets
abbrev pub preopen_fdstat : Fdstat
preopen_fdstat = record { filetype = 3; flags = 0; base = 129498624; inheriting = 267911167 }

-- of another directory, for it and for what is opened below it: all rights but FD_SEEK, FD_WRITE,
-- PATH_FILESTAT_SET_SIZE and FD_FILESTAT_SET_SIZE
abbrev pub directory_fdstat : Fdstat
directory_fdstat = record { filetype = 3; flags = 0; base = 1069023163; inheriting = 1069023163 }

-- append and nonblock, where they are set
abbrev pub modes_bits : FileModes → ℕ
modes_bits modes = (if modes.append then 1 else 0) + (if modes.nonblock then 4 else 0)

-- all rights, but FD_READ and FD_READDIR where it wasn't opened for reading, and FD_WRITE where not for writing
abbrev pub file_rights : OpenMode → ℕ
file_rights mode =
    1073741823
    - (if includes (mode_bits mode) 1 then 0 else 16386)
    - (if includes (mode_bits mode) 2 then 0 else 64)

abbrev pub file_fdstat : OpenMode → FileModes → DescriptorType → Fdstat
file_fdstat mode modes kind = record {
  filetype = filetype_number (filetype_of kind);
  flags = modes_bits modes;
  base = file_rights mode;
  inheriting = file_rights mode;
}

-- of a file of which a host says this
abbrev pub file_told : OpenFile → Metadata → Fdstat
file_told f metadata = file_fdstat f.open_mode f.modes (descriptor_type metadata.kind)
