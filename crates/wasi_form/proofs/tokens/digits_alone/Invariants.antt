use Rattle.std.proofs.Common.{◌≡◌, ◌^◌, ◌<◌, take}
use Rattle.std.specs.Str.Parse.{AllDigits, digits_value}
use Rattle.wasi_form.proofs.tokens.digits_alone.Given as goal

abbrev pub invariant-loop-digit : goal.invariant-loop-digit
invariant-loop-digit l =
    AllDigits 10 (take l.digit-index l.bytes) × (l.n ≡ digits_value 10 (take l.digit-index l.bytes)) × (l.n < 2 ^ 64)
