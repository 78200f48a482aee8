use Rattle.std.proofs.Common.{◌≡◌, ◌+◌, ◌/◌, ◌^◌, true, nat_lt, refl, ap, arith, Result, Ok}
use Rattle.std.proofs.lemmas.Bool.Decides.{nat_tests}
use Rattle.wasi_host.proofs.Times.{same_time}
use Rattle.wasi_host.specs.declared.system_time.SystemTime.{SystemTime}
use Rattle.wasi_p2_types.specs.declared.times.DatetimeError.{DatetimeError}
use Rattle.wasi_p2_types.proofs.times.systemtime_from.Goals as goal

pub returns : goal.returns
returns c =
    let small : nat_lt (c.args.t.seconds + c.args.t.nanoseconds / 10 ^ 9) (2 ^ 63) ≡ true = grind (arith, nat_tests) in
    rw small (ap (λ t. let r : Result SystemTime DatetimeError = Ok t in r) (same_time _ _ refl refl))
