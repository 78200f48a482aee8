-- The times that a call is given.
use Rattle.std.specs.Prelude.{◌+◌, ◌/◌, ◌%◌, ◌^◌, nat_lt, if◌then◌else◌, pos, Option, Some, None, Result, Ok, Err}
use Rattle.std.proofs.Common.{lit<}
use Rattle.std.proofs.Math.Nat.{mod-lt}
use Rattle.wasi_host.specs.declared.system_time.SystemTime.{SystemTime}
use Rattle.wasi_guest.specs.declared.guest_env.WallDatetime.{WallDatetime}
use Rattle.wasi_p2_types.specs.declared.error_code.ErrorCode.{ErrorCode}
use Rattle.wasi_p2_types.specs.declared.error_code.ErrorCode.TheVariants.{Overflow}
use Rattle.wasi_p2_types.specs.declared.times.DatetimeError.{DatetimeError}
use Rattle.wasi_p2_types.specs.declared.times.NewTimestamp.{NewTimestamp}
use Rattle.wasi_p2_types.specs.declared.times.NewTimestamp.TheVariants.{NoChange, Now, Timestamp}

-- whole seconds are carried out of the nanoseconds; then an i64 has to hold the seconds, or the time is refused so
abbrev pub time_or : {E : Type 0} → E → WallDatetime → Result SystemTime E
time_or e t =
    if nat_lt (t.seconds + t.nanoseconds / 10 ^ 9) (2 ^ 63)
    then Ok (record {
      seconds = pos (t.seconds + t.nanoseconds / 10 ^ 9);
      nanoseconds = t.nanoseconds % 10 ^ 9;
      is_time = mod-lt t.nanoseconds (lit< tt);
    })
    else Err e

abbrev pub time_at : WallDatetime → Result SystemTime DatetimeError
time_at t = time_or (record {}) t

abbrev pub or_overflowed : Result SystemTime DatetimeError → Result (Option SystemTime) ErrorCode
or_overflowed (Ok time) = Ok (Some time)
or_overflowed (Err e) = Err Overflow

-- the time that is to be set, none where it stays
abbrev pub time_wanted : SystemTime → NewTimestamp → Result (Option SystemTime) ErrorCode
time_wanted now NoChange = Ok None
time_wanted now Now = Ok (Some now)
time_wanted now (Timestamp t) = or_overflowed (time_at t)
