-- The flag sets of preview2 and those of the crates below, each flag as the one of the same name. Such flags
-- have the same bit here and there; bits of no flag are let go.
use Rattle.std.specs.Prelude.{ℕ, [], ◌∷◌}
use Rattle.wasi_fs.specs.Calls.{bits_set}
use Rattle.wasi_fs.specs.OpenFlags.{includes, descriptor_flag_bits}
use Rattle.wasi_fs.specs.OpenHow.{OpenHow, how_of}
use Rattle.wasi_fs.specs.declared.open_flags.PathFlags.{PathFlags as LowerPathFlags}
use Rattle.wasi_fs.specs.declared.open_flags.OpenFlags.{OpenFlags as LowerOpenFlags}
use Rattle.wasi_fs.specs.declared.open_flags.DescriptorFlags.{DescriptorFlags as LowerDescriptorFlags}
use Rattle.wasi_p2_types.specs.declared.flags.PathFlags.{PathFlags}
use Rattle.wasi_p2_types.specs.declared.flags.OpenFlags.{OpenFlags}
use Rattle.wasi_p2_types.specs.declared.flags.DescriptorFlags.{DescriptorFlags}

-- SYMLINK_FOLLOW
abbrev pub path_bits : ℕ → ℕ
path_bits set = bits_set ((includes set 1, 1) ∷ [])

-- CREATE, DIRECTORY, EXCLUSIVE, TRUNCATE
abbrev pub open_bits : ℕ → ℕ
open_bits set = bits_set ((includes set 1, 1) ∷ (includes set 2, 2) ∷ (includes set 4, 4) ∷ (includes set 8, 8) ∷ [])

-- READ, WRITE, FILE_INTEGRITY_SYNC, DATA_INTEGRITY_SYNC, REQUESTED_WRITE_SYNC, MUTATE_DIRECTORY
abbrev pub descriptor_bits : ℕ → ℕ
descriptor_bits set = bits_set (
    (includes set 1, 1) ∷
    (includes set 2, 2) ∷
    (includes set 4, 4) ∷
    (includes set 8, 8) ∷
    (includes set 16, 16) ∷
    (includes set 32, 32) ∷
    [])

abbrev pub path_flags_named : PathFlags → LowerPathFlags
path_flags_named set = record { 0 = path_bits set.0 }

abbrev pub open_flags_named : OpenFlags → LowerOpenFlags
open_flags_named set = record { 0 = open_bits set.0 }

abbrev pub descriptor_flags_named : DescriptorFlags → LowerDescriptorFlags
descriptor_flags_named set = record { 0 = descriptor_bits set.0 }

-- the other way round, from the bits of a set
abbrev pub descriptor_flags_told : LowerDescriptorFlags → DescriptorFlags
descriptor_flags_told set = record { 0 = descriptor_bits (descriptor_flag_bits set) }

-- how an open is asked for, by preview2's flags
abbrev pub how_named : PathFlags → OpenFlags → DescriptorFlags → OpenHow
how_named path_flags oflags flags =
    how_of (path_flags_named path_flags) (open_flags_named oflags) (descriptor_flags_named flags)
