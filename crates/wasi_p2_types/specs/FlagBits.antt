-- The flag sets of preview2, as numbers.
use Rattle.std.specs.Prelude.{ℕ}
use Rattle.wasi_p2_types.specs.declared.flags.PathFlags.{PathFlags}
use Rattle.wasi_p2_types.specs.declared.flags.OpenFlags.{OpenFlags}
use Rattle.wasi_p2_types.specs.declared.flags.DescriptorFlags.{DescriptorFlags}

abbrev pub path_set : PathFlags → ℕ
path_set set = set.0

abbrev pub open_set : OpenFlags → ℕ
open_set set = set.0

abbrev pub descriptor_set : DescriptorFlags → ℕ
descriptor_set set = set.0
