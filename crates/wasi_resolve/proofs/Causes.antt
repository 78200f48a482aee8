-- The cause of what two parts answer, one after the other.
use Rattle.std.proofs.Common.{◌≡◌, ◌≤◌, Result, Ok, Err, ◌∙◌, arith}
use Rattle.wasi_host.specs.HostLaws.{FaultCount, HasCause}
use Rattle.wasi_host.specs.declared.errors.ErrorCode.TheVariants.{Io}
use Rattle.wasi_host.specs.declared.errors.HostError.{HostError}
use Rattle.wasi_host.specs.declared.errors.HostError.TheVariants.{Code}

-- whatever came before, the cause is the last part's: both are `Io` or neither is
cause_after : {A B : Type 0} {a b c : FaultCount} {r : Result A HostError} {s : Result B HostError}
    → a.count ≤ b.count → b.most ≡ a.most → HasCause b c r → (s ≡ Err (Code Io) → r ≡ Err (Code Io)) → HasCause a c s
cause_after later most last same = record {
  later = omega (arith, last.later);
  most = last.most ∙ most;
  io = λ is. omega (arith, last.io (same is));
}

-- the last part was refused, and with it the whole
pub cause_err : {A B : Type 0} {a b c : FaultCount} {e : HostError} → a.count ≤ b.count → b.most ≡ a.most
    → HasCause {A = A} b c (Err e) → HasCause {A = B} a c (Err e)
cause_err later most last = cause_after later most last (λ is. cc)

-- neither was refused
pub cause_ok : {A B : Type 0} {a b c : FaultCount} {x : A} {y : B} → a.count ≤ b.count → b.most ≡ a.most
    → HasCause b c (Ok x) → HasCause a c (Ok y)
cause_ok later most last = cause_after later most last (λ is. cc)
