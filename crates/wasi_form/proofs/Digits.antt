-- Digits alone, which are read as the number that they write.
use Rattle.std.proofs.Common.{◌≡◌, ℕ, ◌<◌, ◌^◌, List, [], ◌∷◌, ◌++◌, length, get_or, false, Some, refl, sym, ap, ◌∙◌, arith, append-nil, lt-ltb, ne_eqb}
use Rattle.std.specs.Char.{digit_value}
use Rattle.std.specs.Str.Parse.{AllDigits, digits_value}
use Rattle.fast_float.specs.Text.{minus, Parts, scan, IsWellFormed}
use Rattle.fast_float.proofs.Writing.{scan-text_of}
use Rattle.serde_json.specs.Data.{unsigned}
use Rattle.serde_json.specs.Read.{number_of, number_from}

-- the parts of a numeral of these digits
abbrev digits_parts : List ℕ → Parts
digits_parts ds = record { whole = ds; point = false; fraction = []; exponent_negative = false; exponent = []; len = length (ds ++ []) }

no_minus : (ds : List ℕ) → AllDigits 10 ds → 0 < length ds → get_or ds 0 0 ≡ minus → ⊥
no_minus [] digits some e = omega arith
no_minus (d ∷ ds) digits some e =
    let digit : digit_value d < 10 = digits.0 in
    let is : d ≡ 45 = e in
    grind arith

pub number_of-digits : (ds : List ℕ) → AllDigits 10 ds → 0 < length ds → digits_value 10 ds < 2 ^ 64 → number_of ds ≡ Some (unsigned (digits_value 10 ds))
unfolding number_of
number_of-digits ds digits some fits =
    let formed : IsWellFormed (digits_parts ds) = record { whole_digits = digits; fraction_digits = tt; exponent_digits = tt; no_point = λ _. refl; no_exponent = λ _. refl; len_is = refl } in
    let scanned = ap (λ text. number_from false (scan text)) (sym (append-nil ds)) ∙ ap (number_from false) (scan-text_of (digits_parts ds) formed) in
    rw (ne_eqb (get_or ds 0 0) 45 (no_minus ds digits some)) (scanned ∙ rw (append-nil ds, lt-ltb _ _ some, lt-ltb _ _ fits) refl)
