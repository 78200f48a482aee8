-- Times that preview2 is given: none is before the epoch.
use Rattle.std.specs.Prelude.{pos, ◌≤ℤ◌, Option, Some, None}
use Rattle.wasi_host.specs.declared.system_time.SystemTime.{SystemTime}
use Rattle.wasi_p1_types.specs.declared.new_times.NewTimes.{NewTimes}

abbrev pub IsSinceEpoch : Option SystemTime → Type 0
IsSinceEpoch (Some time) = pos 0 ≤ℤ time.seconds
IsSinceEpoch None = Unit {0}

pub record AreSinceEpoch (times : NewTimes) : Type 0 where
  pub atime : IsSinceEpoch times.atime
  pub mtime : IsSinceEpoch times.mtime
