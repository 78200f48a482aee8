-- The records that calls answer, as they stand in memory: numbers in little-endian order; what no field has is 0.
use Rattle.std.specs.Prelude.{ℕ, ◌%◌, ◌^◌, List, ◌∷◌, ◌++◌, replicate}
use Rattle.std.specs.Int.{to_le_bytes, w16, w32, w64}
use Rattle.wasi_guest.specs.declared.fdstat.Fdstat.{Fdstat}
use Rattle.wasi_guest.specs.declared.filestat.Filestat.{Filestat}

-- the low 32 bits
abbrev pub low_half : ℕ → List ℕ
low_half n = to_le_bytes w32 (n % 2 ^ 32)

-- 24 bytes
abbrev pub fdstat_bytes : Fdstat → List ℕ
fdstat_bytes stat =
    stat.filetype
    ∷ 0
    ∷ to_le_bytes w16 stat.flags
    ++ replicate 4 0
    ++ to_le_bytes w64 stat.base
    ++ to_le_bytes w64 stat.inheriting

-- 64 bytes
abbrev pub filestat_bytes : Filestat → List ℕ
filestat_bytes stat =
    to_le_bytes w64 stat.dev
    ++ to_le_bytes w64 stat.ino
    ++ stat.filetype
    ∷ replicate 7 0
    ++ to_le_bytes w64 stat.nlink
    ++ to_le_bytes w64 stat.size
    ++ to_le_bytes w64 stat.atim
    ++ to_le_bytes w64 stat.mtim
    ++ to_le_bytes w64 stat.ctim

-- 8 bytes: the tag of a directory, and how many bytes its name has
abbrev pub prestat_bytes : ℕ → List ℕ
prestat_bytes name_len = replicate 4 0 ++ low_half name_len
