-- The flag sets of preview1 as numbers.
use Rattle.std.specs.Prelude.{ℕ}
use Rattle.wasi_guest.specs.declared.flags.LookupFlags.{LookupFlags}
use Rattle.wasi_guest.specs.declared.flags.OFlags.{OFlags}
use Rattle.wasi_guest.specs.declared.flags.FdFlags.{FdFlags}
use Rattle.wasi_guest.specs.declared.flags.FstFlags.{FstFlags}
use Rattle.wasi_guest.specs.declared.flags.SubclockFlags.{SubclockFlags}
use Rattle.wasi_guest.specs.declared.flags.EventRwFlags.{EventRwFlags}
use Rattle.wasi_guest.specs.declared.flags.RiFlags.{RiFlags}
use Rattle.wasi_guest.specs.declared.flags.SdFlags.{SdFlags}
use Rattle.wasi_guest.specs.declared.flags.Rights.{Rights}

-- the number of a set's bits
abbrev pub lookupflag_bits : LookupFlags → ℕ
lookupflag_bits set = set.0

abbrev pub oflag_bits : OFlags → ℕ
oflag_bits set = set.0

abbrev pub fdflag_bits : FdFlags → ℕ
fdflag_bits set = set.0

abbrev pub fstflag_bits : FstFlags → ℕ
fstflag_bits set = set.0

abbrev pub subclockflag_bits : SubclockFlags → ℕ
subclockflag_bits set = set.0

abbrev pub eventrwflag_bits : EventRwFlags → ℕ
eventrwflag_bits set = set.0

abbrev pub riflag_bits : RiFlags → ℕ
riflag_bits set = set.0

abbrev pub sdflag_bits : SdFlags → ℕ
sdflag_bits set = set.0

abbrev pub right_bits : Rights → ℕ
right_bits set = set.0
