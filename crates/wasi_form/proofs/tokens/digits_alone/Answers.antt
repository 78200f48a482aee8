use Rattle.std.proofs.Common.{◌≡◌, ◌<◌, Some, length, get_or, sym, ap, ◌∙◌, subst, arith, take_all}
use Rattle.std.specs.Char.{digit_value}
use Rattle.std.specs.Str.Parse.{AllDigits, digits_value}
use Rattle.std.proofs.lemmas.Bool.Decides.{nat_tests}
use Rattle.std.proofs.lemmas.Int.Digits.{digits_more, digits_value_more}
use Rattle.serde_json.specs.Data.{unsigned}
use Rattle.wasi_form.proofs.Digits.{number_of-digits}
use Rattle.wasi_form.proofs.tokens.digits_alone.Goals as goal

pub loop-digit-preserved : goal.loop-digit-preserved
loop-digit-preserved c =
    let bytes = c.args.bytes.now in
    let i = c.loop-digit.digit-index in
    let within = c.loop-digit-test.true in
    let digit : digit_value (get_or bytes i 0) ≡ c.from.result = grind (arith, nat_tests) in
    let below : digit_value (get_or bytes i 0) < 10 = grind (arith, nat_tests) in (
      digits_more 10 bytes i within c.loop-digit.invariant.0 below,
      omega (arith, digits_value_more 10 bytes i within, c.in_ok-n.ensures.1, c.in_ok-checked_mul.ensures.1, c.loop-digit.invariant.1),
      omega (arith, c.in_ok-n.ensures.0, c.in_ok-n.ensures.1),
    )

pub returns : goal.returns
returns c =
    let bytes = c.args.bytes.now in
    let all = take_all c.loop-digit.digit-index bytes c.loop-digit-test.false in
    let digits : AllDigits 10 bytes = subst (AllDigits 10) all c.loop-digit.invariant.0 in
    let value : c.loop-digit.n ≡ digits_value 10 bytes = c.loop-digit.invariant.1 ∙ ap (digits_value 10) all in
    let some : 0 < length bytes = grind (arith, nat_tests) in
    number_of-digits bytes digits some (omega (arith, value, c.loop-digit.invariant.2)) ∙ ap (λ n. Some (unsigned n)) (sym value)
