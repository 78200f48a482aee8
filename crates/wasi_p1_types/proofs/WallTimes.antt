-- A time that isn't before the epoch, as a moment of the wall clock and back.
use Rattle.std.proofs.Common.{ℕ, ◌+◌, ◌<◌, ◌/◌, ◌%◌, ◌^◌, ◌≡◌, true, nat_lt, Result, Ok, refl, ap, ◌∙◌, arith, pos, negsuc, ℤ, ◌≤ℤ◌, w64, to_z, of_z}
use Rattle.std.proofs.lemmas.Bool.Decides.{nat_tests}
use Rattle.std.proofs.lemmas.Int.{to_z-of_z}
use lib.IntN.{nat_abs}
use mir.Val.{SFits}
use Rattle.wasi_host.proofs.Times.{same_time}
use Rattle.wasi_host.specs.declared.system_time.SystemTime.{SystemTime}
use Rattle.wasi_p2_types.specs.Moments.{time_at}
use Rattle.wasi_p2_types.specs.declared.times.DatetimeError.{DatetimeError}

pub seconds_since : (z : ℤ) → SFits w64 z → pos 0 ≤ℤ z
    → (pos (nat_abs (to_z w64 (of_z w64 z))) ≡ z) × (nat_abs (to_z w64 (of_z w64 z)) < 2 ^ 63)
seconds_since (pos n) fits since = rw (to_z-of_z w64 (pos n) fits) (refl, fits.sfits)
seconds_since (negsuc n) fits since = absurd since.le

pub wall_again : (t : SystemTime) (k : ℕ) → pos k ≡ t.seconds → k < 2 ^ 63
    → time_at (record { seconds = k; nanoseconds = t.nanoseconds }) ≡ Ok t
wall_again t k is less =
    let below = t.is_time in
    let none : t.nanoseconds / 10 ^ 9 ≡ 0 = omega (arith, below) in
    let whole : t.nanoseconds % 10 ^ 9 ≡ t.nanoseconds = omega (arith, below) in
    let small : nat_lt (k + t.nanoseconds / 10 ^ 9) (2 ^ 63) ≡ true = grind (arith, nat_tests) in
    let sum : k + t.nanoseconds / 10 ^ 9 ≡ k = omega (arith, none) in
    rw small (ap (λ (s : SystemTime). let r : Result SystemTime DatetimeError = Ok s in r)
    (same_time _ t (ap pos sum ∙ is) whole))
