-- The times that a call sets, beside what it sets them of.
use Rattle.std.specs.Prelude.{Option, Result, Ok, Err}
use Rattle.wasi_host.specs.declared.system_time.SystemTime.{SystemTime}
use Rattle.wasi_p2_types.specs.Moments.{time_wanted}
use Rattle.wasi_p2_types.specs.declared.error.FsError.{FsError}
use Rattle.wasi_p2_types.specs.declared.error.FsError.TheVariants.{Code}
use Rattle.wasi_p2_types.specs.declared.error_code.ErrorCode.{ErrorCode}
use Rattle.wasi_p2_types.specs.declared.times.NewTimestamp.{NewTimestamp}

-- of the last read, and of the last change
abbrev pub TimesWanted : Type 0
TimesWanted = Option SystemTime × Option SystemTime

abbrev pub with_wanted : {X : Type 0} → X → Result (Option SystemTime) ErrorCode → Result (Option SystemTime) ErrorCode
    → Result (X × TimesWanted) FsError
with_wanted x (Ok atime) (Ok mtime) = Ok (x, (atime, mtime))
with_wanted x (Ok atime) (Err code) = Err (Code code)
with_wanted x (Err code) mtime = Err (Code code)

-- the refusal of what is found goes first, then that of the first time
abbrev pub timed_by : {X : Type 0} → Result X FsError → SystemTime → NewTimestamp → NewTimestamp
    → Result (X × TimesWanted) FsError
timed_by (Ok x) now atim mtim = with_wanted x (time_wanted now atim) (time_wanted now mtim)
timed_by (Err e) now atim mtim = Err e
