-- The numbers of preview1's types of nodes.
use Rattle.std.specs.Prelude.{ℕ}
use Rattle.wasi_guest.specs.declared.filetype.Filetype.{Filetype}
use Rattle.wasi_guest.specs.declared.filetype.Filetype.TheVariants as types

-- preview1's number
abbrev pub filetype_number : Filetype → ℕ
filetype_number types.Unknown = 0
filetype_number types.BlockDevice = 1
filetype_number types.CharacterDevice = 2
filetype_number types.Directory = 3
filetype_number types.RegularFile = 4
filetype_number types.SymbolicLink = 7
