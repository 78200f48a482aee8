use Rattle.std.proofs.Common.{◌≡◌, drop, get_or, true, false, ◌==◌, sym, ap, ◌∙◌, arith, take_all, length-drop, refl}
use Rattle.fast_float.specs.Text.{scan}
use Rattle.serde_json.specs.Read.{number_of, number_from}
use Rattle.wasi_form.proofs.tokens.numeral.Goals as goal

pub returns-then-has_minus : goal.returns-then-has_minus
unfolding number_of
returns-then-has_minus c =
    let bytes = c.args.bytes.now in
    let minus : (get_or bytes 0 0 == 45) ≡ true = sym c.if-has_minus.ensures.test in
    let rest : c.scan.result ≡ scan (drop 1 bytes) = c.scan.ensures.parts ∙ ap scan (take_all _ (drop 1 bytes) (omega (arith, length-drop 1 bytes))) in
    let number : number_from true (scan (drop 1 bytes)) ≡ number_of bytes = rw minus refl in
    c.below_zero.ensures ∙ ap (number_from true) rest ∙ number

pub returns-else-has_minus : goal.returns-else-has_minus
unfolding number_of
returns-else-has_minus c =
    let bytes = c.args.bytes.now in
    let none : (get_or bytes 0 0 == 45) ≡ false = sym c.if-has_minus.ensures.test in
    let number : number_from false (scan bytes) ≡ number_of bytes = rw none refl in
    c.above_zero.ensures ∙ ap (number_from false) c.scan-else-has_minus.ensures.parts ∙ number
