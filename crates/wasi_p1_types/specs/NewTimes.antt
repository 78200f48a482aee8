-- The times that a call which sets some is given.
use Rattle.std.specs.Prelude.{ℕ, ◌/◌, ◌%◌, ◌^◌, pos, Bool, true, false, Option, Some, None, Err}
use Rattle.std.proofs.Common.{lit<}
use Rattle.std.proofs.Math.Nat.{mod-lt}
use Rattle.wasi_host.specs.declared.system_time.SystemTime.{SystemTime}
use Rattle.wasi_guest.specs.Flags as flag
use Rattle.wasi_guest.specs.Flags.{has, flags_in, known_fstflags}
use Rattle.wasi_host.specs.Steps.{◌>>=◌}
use Rattle.wasi_guest.specs.declared.errno.Errno.TheVariants as errnos
use Rattle.wasi_guest.specs.declared.guest_env.WallDatetime.{WallDatetime}
use Rattle.wasi_p2_types.specs.Moments.{time_or}
use Rattle.wasi_p1_types.specs.RawFlags.{or_inval}
use Rattle.wasi_p1_types.specs.CallResult.{CallResult, give}
use Rattle.wasi_p1_types.specs.declared.error.P1Error.TheVariants.{Errno}
use Rattle.wasi_p1_types.specs.declared.new_times.NewTimes.{NewTimes}

-- the moment so many nanoseconds after the epoch
abbrev pub time_after : ℕ → SystemTime
time_after n = record { seconds = pos (n / 10 ^ 9); nanoseconds = n % 10 ^ 9; is_time = mod-lt n (lit< tt) }

-- so many seconds after it, and so many nanoseconds, out of which whole seconds are carried; seconds that an i64 doesn't
-- hold are refused `overflow`
abbrev pub time_of : WallDatetime → CallResult SystemTime
time_of wall = time_or (Errno errnos.Overflow) wall

-- a time that is given, or what the wall clock stands at, or none; both at once are refused `inval`
abbrev pub new_time : WallDatetime → ℕ → Bool → Bool → CallResult (Option SystemTime)
new_time wall n true true = Err (Errno errnos.Inval)
new_time wall n true false = give (Some (time_after n))
new_time wall n false true = time_of wall >>= (λ now. give (Some now))
new_time wall n false false = give None

-- the time of the last read and that of the last change, by raw numbers; an unknown bit is refused `inval`
unfoldable pub times_asked : WallDatetime → ℕ → ℕ → ℕ → CallResult NewTimes
times_asked wall atim mtim fst_flags = do
  set ← or_inval (flags_in known_fstflags fst_flags)
  atime ← new_time wall atim (has set flag.atim) (has set flag.atim_now)
  mtime ← new_time wall mtim (has set flag.mtim) (has set flag.mtim_now)
  give (record { atime = atime; mtime = mtime })
