-- What is told of a node, from what preview2 says of it.
use Rattle.std.specs.Prelude.{ℕ, ◌+◌, ◌*◌, ◌^◌, IsTrue, IfErr, Option, Some, None, Ok}
use Rattle.wasi_guest.specs.FiletypeNumber.{filetype_number}
use Rattle.wasi_guest.specs.declared.filestat.Filestat.{Filestat}
use Rattle.wasi_guest.specs.declared.filetype.Filetype.{Filetype}
use Rattle.wasi_guest.specs.declared.filetype.Filetype.TheVariants as filetypes
use Rattle.wasi_guest.specs.declared.guest_env.WallDatetime.{WallDatetime}
use Rattle.wasi_host.specs.HostLaws.{Rose}
use Rattle.wasi_host.specs.Steps.{◌>>=◌}
use Rattle.wasi_host.specs.declared.host.Host.{Ghosts}
use Rattle.wasi_p1_types.specs.CallParts.{IsReplied, Makes, WantsNoMemory}
use Rattle.wasi_p1_types.specs.Filestats.{or_overflow}
use Rattle.wasi_p1_types.specs.Request.{Reply, Request}
use Rattle.wasi_p1_types.specs.CallResult.{CallResult, give}
use Rattle.wasi_p1_types.specs.declared.looked.StatBoth.{StatBoth}
use Rattle.wasi_p1_state.specs.declared.filestats.ViewedStat.{ViewedStat}
use Rattle.wasi_p2_types.specs.Stats.{hash_named, stat_named}
use Rattle.wasi_p2_types.specs.declared.descriptor_stat.DescriptorType.{DescriptorType}
use Rattle.wasi_p2_types.specs.declared.descriptor_stat.DescriptorType.TheVariants as types

-- What a part makes of the reply to its look, for which it takes no memory: over every host, and over one that tells
-- its model
pub record LookMakes {H A : Type 0} (host : Ghosts H) (old new : H) (r : Request) (next : Reply r → CallResult A)
    (result : CallResult A) : Type 0 where
  pub never_wants : IfErr result WantsNoMemory
  pub front : IsReplied r next result
  pub modelled : IsTrue host.modelled → Makes (Rose (host.faults old) (host.faults new)) (host.live old)
      (host.model old) (host.model new) r next result

-- what the crates below say of it, as preview2 does
abbrev pub viewed : StatBoth → ViewedStat
viewed both = record { stat = stat_named both.stat; hash = hash_named both.hash }

-- the type of the same name; preview1 has no pipe, and no socket that tells its kind
abbrev pub filetype_named : DescriptorType → Filetype
filetype_named types.Unknown = filetypes.Unknown
filetype_named types.BlockDevice = filetypes.BlockDevice
filetype_named types.CharacterDevice = filetypes.CharacterDevice
filetype_named types.Directory = filetypes.Directory
filetype_named types.Fifo = filetypes.Unknown
filetype_named types.SymbolicLink = filetypes.SymbolicLink
filetype_named types.RegularFile = filetypes.RegularFile
filetype_named types.Socket = filetypes.Unknown

-- a moment in nanoseconds; a time that isn't kept is the epoch
abbrev pub wall_nanoseconds : Option WallDatetime → CallResult ℕ
wall_nanoseconds (Some moment) = or_overflow (moment.seconds * 10 ^ 9 + moment.nanoseconds)
wall_nanoseconds None = Ok 0

-- there is one device; a time past what 64 bits hold is refused `overflow`
unfoldable pub viewed_filestat : ViewedStat → CallResult Filestat
viewed_filestat both = do
  atim ← wall_nanoseconds both.stat.data_access_timestamp
  mtim ← wall_nanoseconds both.stat.data_modification_timestamp
  ctim ← wall_nanoseconds both.stat.status_change_timestamp
  give (record {
    dev = 1;
    ino = both.hash.lower;
    filetype = filetype_number (filetype_named both.stat.type_);
    nlink = both.stat.link_count;
    size = both.stat.size;
    atim = atim;
    mtim = mtim;
    ctim = ctim;
  })
