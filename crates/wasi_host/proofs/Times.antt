-- Lemmas on moments.
use Rattle.std.proofs.Common.{◌≡◌, ℕ, ◌<◌}
use Rattle.std.specs.Prelude.{pos}
use mathlib.Core.HLevel.{Σ_prop_path}
use Rattle.std.proofs.Props.{props}
use Rattle.wasi_host.specs.Time.{zero_time}
use Rattle.wasi_host.specs.Numbers.{second}
use Rattle.wasi_host.specs.declared.system_time.SystemTime.{SystemTime}

-- a moment is its seconds and its nanoseconds
pub same_time : (s t : SystemTime) → s.seconds ≡ t.seconds → s.nanoseconds ≡ t.nanoseconds → s ≡ t
same_time s t seconds nanoseconds =
    let parts : ◌≡◌ {A = (n : ℕ) × (n < second)} (s.nanoseconds, s.is_time) (t.nanoseconds, t.is_time) = Σ_prop_path (λ n. hlevel props) nanoseconds in
    λ i. record { seconds = seconds i; nanoseconds = (parts i).0; is_time = (parts i).1 }

-- every moment of no seconds and no nanoseconds is the epoch
pub zero_time-is : (t : SystemTime) → t.seconds ≡ pos 0 → t.nanoseconds ≡ 0 → t ≡ zero_time
zero_time-is t seconds nanoseconds = same_time t zero_time seconds nanoseconds
