-- The flag sets of an open, as numbers.
use Rattle.std.specs.Prelude.{ℕ, ◌==◌, Bool}
use Rattle.std.specs.Int.RustNames.{bit_and}
use Rattle.wasi_fs.specs.declared.open_flags.PathFlags.{PathFlags}
use Rattle.wasi_fs.specs.declared.open_flags.OpenFlags.{OpenFlags}
use Rattle.wasi_fs.specs.declared.open_flags.DescriptorFlags.{DescriptorFlags}

-- the number of a set's bits
abbrev pub path_flag_bits : PathFlags → ℕ
path_flag_bits set = set.0

abbrev pub open_flag_bits : OpenFlags → ℕ
open_flag_bits set = set.0

abbrev pub descriptor_flag_bits : DescriptorFlags → ℕ
descriptor_flag_bits set = set.0

-- a set has all of these flags
abbrev pub includes : ℕ → ℕ → Bool
includes set flags = bit_and set flags == flags
