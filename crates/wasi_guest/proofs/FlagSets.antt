-- What a flag set makes of a raw number.
use Rattle.std.proofs.Common.{ℕ, ◌≡◌, ◌↔◌, Option, Some, None, IsSome, IfSome, arith}
use Rattle.std.specs.Int.RustNames.{bit_and}
use Rattle.std.proofs.lemmas.Bool.Decides.{nat_tests}
use Rattle.wasi_guest.specs.Flags.{flags_in}

-- what is given is the raw number, and is given where no bit of it is unknown
pub set_of_known : (known bits : ℕ) (set : Option ℕ) → IfSome set (λ s. s ≡ bits)
    → (IsSome set ↔ (bit_and bits known ≡ bits)) → set ≡ flags_in known bits
set_of_known known bits (Some s) value found = grind (arith, nat_tests)
set_of_known known bits None value found = grind (arith, nat_tests)
