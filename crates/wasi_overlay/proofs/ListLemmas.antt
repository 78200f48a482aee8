-- The numbers of marked seats in a list.
use Rattle.std.proofs.Common.{◌≡◌, ◌<◌, ◌≤◌, ◌+◌, ◌++◌, ◌∷◌, ◌||◌, ℕ, Bool, true, false, List, [], Some, None, inl, inr, refl, sym, ap, ◌∙◌, arith}
use Rattle.std.proofs.lemmas.Bool.{cases_eq, cases_lt}
use Rattle.std.proofs.lemmas.Bool.Decides.{nat_tests}
use Rattle.std.proofs.lemmas.List.Folds.{list_any-append}
use Rattle.std.specs.Cmp.{nat_cmp_total}
use Rattle.std.specs.FinMap as maps
use Rattle.std.specs.FinSet.{contains-from_list, from_list}
use Rattle.std.specs.List.{AllByRecursion, list_any}
use Rattle.std.specs.List.Sorted.{IsStrictlySortedBy}
use Rattle.std.specs.Ordering.{nat_cmp, eq_by_cmp}
use Rattle.std.specs.declared.cmp.Ordering.TheVariants.{Less}
use Rattle.wasi_paged_map.specs.Places.{IsFirstFrom}
use Rattle.wasi_overlay.specs.OverSeats.{SeatMap, passes, numbers_with}
use Rattle.wasi_overlay.specs.declared.seat.Seat.{Seat}
use Rattle.wasi_overlay.proofs.OverLemmas.{same_numbers, contains-numbers_with}

-- The list rises, and has the numbers below one whose seat passes.
pub record IsListed (test : Seat → Bool) (seats : SeatMap) (from : ℕ) (numbers : List ℕ) : Type 0 where
  pub rising : IsStrictlySortedBy nat_cmp numbers
  pub below : AllByRecursion (λ n. n < from) numbers
  pub told : (k : ℕ) → k < from → list_any (eq_by_cmp nat_cmp k) numbers ≡ passes test (maps.get seats k)

pub none_listed : (test : Seat → Bool) (seats : SeatMap) → IsListed test seats 0 []
unfolding IsStrictlySortedBy
none_listed test seats = record { rising = tt; below = tt; told = λ k less. absurd (omega arith) }

none_above : (from k : ℕ) (numbers : List ℕ) → AllByRecursion (λ n. n < from) numbers → from ≤ k → list_any (eq_by_cmp nat_cmp k) numbers ≡ false
none_above from k [] below above = refl
none_above from k (n ∷ numbers) below above =
    let less : n < from = below.0 in
    let apart : eq_by_cmp nat_cmp k n ≡ false = grind (arith, nat_tests) in
    ap (λ b. b || list_any (eq_by_cmp nat_cmp k) numbers) apart ∙ none_above from k numbers below.1 above

raised : (from more : ℕ) (numbers : List ℕ) → from ≤ more → AllByRecursion (λ n. n < from) numbers → AllByRecursion (λ n. n < more) numbers
raised from more [] above below = tt
raised from more (n ∷ numbers) above below = let less : n < from = below.0 in (omega arith, raised from more numbers above below.1)

below_push : (from n : ℕ) (numbers : List ℕ) → from ≤ n → AllByRecursion (λ m. m < from) numbers → AllByRecursion (λ m. m < n + 1) (numbers ++ n ∷ [])
below_push from n [] above below = (omega arith, tt)
below_push from n (m ∷ numbers) above below = let less : m < from = below.0 in (omega arith, below_push from n numbers above below.1)

less_push : (m n : ℕ) (numbers : List ℕ) → nat_cmp m n ≡ Less → AllByRecursion (λ k. nat_cmp m k ≡ Less) numbers
    → AllByRecursion (λ k. nat_cmp m k ≡ Less) (numbers ++ n ∷ [])
less_push m n [] less all = (less, tt)
less_push m n (k ∷ numbers) less all = (all.0, less_push m n numbers less all.1)

rising_push : (from n : ℕ) (numbers : List ℕ) → from ≤ n → AllByRecursion (λ m. m < from) numbers
    → IsStrictlySortedBy nat_cmp numbers → IsStrictlySortedBy nat_cmp (numbers ++ n ∷ [])
unfolding IsStrictlySortedBy
rising_push from n [] above below rising = (tt, tt)
rising_push from n (m ∷ numbers) above below rising =
    let less : m < from = below.0 in
    let before : nat_cmp m n ≡ Less = grind (arith, nat_tests) in
    (less_push m n numbers before rising.0, rising_push from n numbers above below.1 rising.1)

either_true : (b : Bool) → (b || true) ≡ true
either_true true = refl
either_true false = refl

either_false : (b : Bool) → (b || false) ≡ b
either_false true = refl
either_false false = refl

module _ (test : Seat → Bool) (seats : SeatMap) (from n : ℕ) (numbers : List ℕ) (listed : IsListed test seats from numbers) (first : IsFirstFrom (maps.get seats) from (Some n)) where
  -- the next number, whose seat doesn't pass
  pub listed_past : passes test (maps.get seats n) ≡ false → IsListed test seats (n + 1) numbers
  listed_past fails = record {
    rising = listed.rising;
    below = raised from (n + 1) numbers (let above : from ≤ n = first.0 in omega arith) listed.below;
    told = λ k less. elim (cases_lt k from) [
      | inl old ↦ listed.told k old
      | inr new ↦ none_above from k numbers listed.below new ∙ elim (cases_eq k n) [
        | inl here ↦ sym (ap (λ m. passes test (maps.get seats m)) here ∙ fails)
        | inr other ↦ sym (ap (passes test) (first.2 k new (omega arith)))
      ]
    ];
  }

  -- the next number, whose seat passes
  pub listed_more : passes test (maps.get seats n) ≡ true → IsListed test seats (n + 1) (numbers ++ n ∷ [])
  listed_more holds = record {
    rising = rising_push from n numbers first.0 listed.below listed.rising;
    below = below_push from n numbers first.0 listed.below;
    told = λ k less. list_any-append (eq_by_cmp nat_cmp k) numbers (n ∷ []) ∙ elim (cases_eq k n) [
      | inl here ↦
          let same : eq_by_cmp nat_cmp k n ≡ true = grind (arith, nat_tests) in
          ap (λ b. list_any (eq_by_cmp nat_cmp k) numbers || (b || false)) same ∙ either_true (list_any (eq_by_cmp nat_cmp k) numbers)
          ∙ sym (ap (λ m. passes test (maps.get seats m)) here ∙ holds)
      | inr other ↦
          let apart : eq_by_cmp nat_cmp k n ≡ false = grind (arith, nat_tests) in
          ap (λ b. list_any (eq_by_cmp nat_cmp k) numbers || (b || false)) apart ∙ either_false (list_any (eq_by_cmp nat_cmp k) numbers)
          ∙ elim (cases_lt k from) [
            | inl old ↦ listed.told k old
            | inr new ↦ none_above from k numbers listed.below new ∙ sym (ap (passes test) (first.2 k new (omega arith)))
          ]
    ];
  }

-- all, once no number is left
pub listed_all : (test : Seat → Bool) (seats : SeatMap) (from : ℕ) (numbers : List ℕ) → IsListed test seats from numbers
    → IsFirstFrom (maps.get seats) from None → from_list {R = nat_cmp} numbers ≡ numbers_with test seats
listed_all test seats from numbers listed none = same_numbers _ _ (λ k.
    contains-from_list nat_cmp_total numbers k
    ∙ elim (cases_lt k from) [
      | inl old ↦ listed.told k old
      | inr new ↦ none_above from k numbers listed.below new ∙ sym (ap (passes test) (none k new))
    ]
    ∙ sym (contains-numbers_with test seats k))

pub ruleset listed_rules = (none_listed, listed_past, listed_more, listed_all)
