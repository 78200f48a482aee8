-- Words that write a number.
use Rattle.std.proofs.Common.{◌≡◌, ℕ, ◌+◌, ◌-◌, ◌*◌, ◌<◌, ◌≤◌, true, false, ◌&&◌, List, [], ◌∷◌, length, refl, arith, rules, Result}
use Rattle.std.specs.Prelude.{nat_le, None, IfSome}
use Rattle.std.specs.Result.{result_ok}
use Rattle.std.specs.Char.{is_ascii_digit}
use Rattle.std.specs.List.{list_all}
use Rattle.std.specs.Str.Parse.{ParsesUnsigned}
use Rattle.std.proofs.lemmas.Bool.{and_parts, leb-true}
use Rattle.std.proofs.lemmas.Str.Parse.{IsNumeralModel, numerals_by_fold, parse_gives, digits_value_short}
use Rattle.wasi_script.specs.Words.{begins_a_number, is_number, number_after, number_written}

own : IsNumeralModel (λ ds. list_all is_ascii_digit ds ≡ true) (number_after 0)
own = numerals_by_fold _ (search rules) number_after (search rules)

-- digits after a number make it no smaller
at_least : (n : ℕ) (ds : List ℕ) → n ≤ number_after n ds
at_least n [] = omega arith
at_least n (c ∷ cs) = omega (arith, at_least (10 * n + (c - 48)) cs)

first_counts : (word : List ℕ) → begins_a_number word ≡ true → (1 ≤ number_after 0 word) × (0 < length word)
first_counts [] begins = absurd (cc)
first_counts (c ∷ cs) begins =
    let range = and_parts (nat_le 49 c) (nat_le c 57) begins in
    let low : 49 ≤ c = leb-true 49 c range.0 in
    (omega (arith, at_least (10 * 0 + (c - 48)) cs), omega arith)

-- a word that writes a number
pub record IsNumber (word : List ℕ) : Type 0 where
  pub digits : list_all is_ascii_digit word ≡ true
  pub some : 0 < length word
  pub least : 1 ≤ number_after 0 word
  pub most : number_after 0 word < 10000

pub numbers_are : (word : List ℕ) → is_number word ≡ true → IsNumber word
unfolding is_number
numbers_are word is =
    let parts = and_parts (begins_a_number word && nat_le (length word) 4) (list_all is_ascii_digit word) is in
    let front = and_parts (begins_a_number word) (nat_le (length word) 4) parts.0 in
    let first = first_counts word front.0 in
    let short : length word ≤ 4 = leb-true (length word) 4 front.1 in
    record {
      digits = parts.1;
      some = first.1;
      least = first.0;
      most = omega (arith, digits_value_short own word 4 parts.1 short);
    }

-- a word that writes a number is read as it
pub read : {E : Type 0} (word : List ℕ) (r : Result ℕ E) → is_number word ≡ true → ParsesUnsigned 64 10 word r
    → result_ok r ≡ number_written word
unfolding number_written
read word r is parses =
    let number = numbers_are word is in
    let whole = parse_gives own 64 word r parses number.digits number.some (omega (arith, number.most)) in
    rw (whole, is) refl

-- and no other word
pub not_read : (word : List ℕ) → is_number word ≡ false → None ≡ number_written word
unfolding number_written
not_read word is = rw is refl

-- the number that is read is from 1 to 9,999
pub within : (word : List ℕ) → is_number word ≡ true → IfSome (number_written word) (λ n. (1 ≤ n) × (n < 10000))
unfolding number_written
within word is =
    let number = numbers_are word is in
    rw is (number.least, number.most)
