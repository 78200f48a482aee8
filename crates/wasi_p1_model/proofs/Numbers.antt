-- Which numbers of a table pass a test, as the table changes.
use Rattle.std.proofs.Common.{ℕ, zero, suc, ◌+◌, ◌<◌, ◌≤◌, ◌==◌, ◌≡◌, ◌≢◌, Bool, true, false, not, cond, List, [], ◌∷◌, ◌++◌, length, map, get_or, slice_set, Option, Some, None, refl, ap, ◌∙◌, subst, arith}
use Rattle.std.specs.Prelude.{count_by}
use Rattle.std.proofs.lemmas.Bool.Decides.{nat_tests}
use Rattle.std.proofs.lemmas.List.{map-append, map-set, length-map}
use Rattle.std.proofs.lemmas.List.Sums.{sum_by-cons}
use Rattle.wasi_p1_types.specs.Slots.{first_slots, preopen_slot, preopen_slots, is_closed_slot}
use Rattle.wasi_p1_types.specs.declared.slots.P1Preopen.{P1Preopen}
use Rattle.wasi_p1_types.specs.Numbering.{passes_at, later_or_here, last_where, put_at, free_number, with_new, live_count}
use Rattle.wasi_p1_types.specs.declared.slots.Slot.TheVariants.{Stream}
use Rattle.wasi_p1_types.specs.declared.slots.Stream.TheVariants.{Input, Output, Error}

pub not_true : (b : Bool) → (b ≡ true → ⊥) → b ≡ false
not_true true h = absurd (h refl)
not_true false h = refl

pub same_number : (k n : ℕ) → (k == n) ≡ true → k ≡ n
same_number k n is = grind (arith, nat_tests)

pub other_number : (k n : ℕ) → (k == n) ≡ false → k ≢ n
other_number k n is same = absurd (let one : (k == n) ≡ true = grind (arith, nat_tests) in cc)

module _ {A : Type 0} (p : A → Bool) where
  pub passes_within : (xs : List A) (n : ℕ) → passes_at p xs n ≡ true → n < length xs
  passes_within [] n is = absurd (cc)
  passes_within (x ∷ xs) zero is = omega arith
  passes_within (x ∷ xs) (suc n) is = let rest = passes_within xs n is in omega (arith, rest)

  pub passes_at-get_or : (xs : List A) (n : ℕ) (d : A) → n < length xs → passes_at p xs n ≡ p (get_or xs n d)
  passes_at-get_or [] n d within = absurd (omega arith)
  passes_at-get_or (x ∷ xs) zero d within = refl
  passes_at-get_or (x ∷ xs) (suc n) d within = passes_at-get_or xs n d (omega arith)

  pub passes_at-set_same : (xs : List A) (n : ℕ) (y : A) → n < length xs → passes_at p (slice_set xs n y) n ≡ p y
  passes_at-set_same [] n y within = absurd (omega arith)
  passes_at-set_same (x ∷ xs) zero y within = refl
  passes_at-set_same (x ∷ xs) (suc n) y within = passes_at-set_same xs n y (omega arith)

  pub passes_at-set_other : (xs : List A) (i n : ℕ) (y : A) → n ≢ i
      → passes_at p (slice_set xs i y) n ≡ passes_at p xs n
  passes_at-set_other [] i n y other = refl
  passes_at-set_other (x ∷ xs) zero zero y other = absurd (other refl)
  passes_at-set_other (x ∷ xs) zero (suc n) y other = refl
  passes_at-set_other (x ∷ xs) (suc i) zero y other = refl
  passes_at-set_other (x ∷ xs) (suc i) (suc n) y other = passes_at-set_other xs i n y (λ same. other (ap suc same))

  pub passes_at-push : (xs : List A) (n : ℕ) (y : A) → p y ≡ false → passes_at p (xs ++ y ∷ []) n ≡ passes_at p xs n
  passes_at-push [] zero y fails = fails
  passes_at-push [] (suc n) y fails = refl
  passes_at-push (x ∷ xs) zero y fails = refl
  passes_at-push (x ∷ xs) (suc n) y fails = passes_at-push xs n y fails

  -- ---- the largest

  last_where-none : (xs : List A) → ((n : ℕ) → passes_at p xs n ≡ false) → last_where p xs ≡ None
  last_where-none [] none = refl
  last_where-none (x ∷ xs) none =
      ap (later_or_here (p x)) (last_where-none xs (λ n. none (suc n))) ∙ ap (λ b. later_or_here b None) (none 0)

  last_where-is : (xs : List A) (i : ℕ) → passes_at p xs i ≡ true
      → ((n : ℕ) → passes_at p xs n ≡ true → n ≤ i) → last_where p xs ≡ Some i
  last_where-is [] i is top = absurd (cc)
  last_where-is (x ∷ xs) zero is top =
      ap (later_or_here (p x))
      (last_where-none xs (λ n. not_true _ (λ passes. absurd (omega (arith, top (suc n) passes)))))
      ∙ ap (λ b. later_or_here b None) is
  last_where-is (x ∷ xs) (suc i) is top =
      ap (later_or_here (p x)) (last_where-is xs i is (λ n passes. omega (arith, top (suc n) passes)))

  -- the largest passes
  pub last_passes : (xs : List A) (i : ℕ) → last_where p xs ≡ Some i → passes_at p xs i ≡ true
  last_passes [] i is = absurd (cc)
  last_passes (x ∷ xs) i is = by (last_where p xs) (λ k at. last_passes xs k at) (p x) refl is
    where
      by : (o : Option ℕ) → ((k : ℕ) → o ≡ Some k → passes_at p xs k ≡ true) → (b : Bool) → p x ≡ b
          → later_or_here b o ≡ Some i → passes_at p (x ∷ xs) i ≡ true
      by (Some k) rest b at is =
          let same : suc k ≡ i = (cc) in subst (λ n. passes_at p (x ∷ xs) n ≡ true) same (rest k refl)
      by None rest true at is = let same : 0 ≡ i = (cc) in subst (λ n. passes_at p (x ∷ xs) n ≡ true) same at
      by None rest false at is = absurd (cc)

  -- where none is closed a new item stands after all, and else under the largest closed number
  pub new_behind : (xs : List A) (y : A) → ((n : ℕ) → passes_at p xs n ≡ false)
      → (length xs ≡ free_number p xs) × (xs ++ y ∷ [] ≡ with_new p xs y)
  unfolding free_number with_new
  new_behind xs y none = rw (last_where-none xs none) (refl, refl)

  pub new_under : (xs : List A) (i : ℕ) (y : A) → passes_at p xs i ≡ true → ((n : ℕ) → passes_at p xs n ≡ true → n ≤ i)
      → (i ≡ free_number p xs) × (slice_set xs i y ≡ with_new p xs y)
  unfolding free_number with_new
  new_under xs i y is top = rw (last_where-is xs i is top) (refl, refl)

  -- an item is live or closed
  pub live_and_closed : (xs : List A) → live_count p xs + count_by p xs ≡ length xs
  unfolding live_count
  live_and_closed [] = refl
  live_and_closed (x ∷ xs) =
      let live = sum_by-cons (λ y. cond (not (p y)) 1 0) x xs in
      let closed = sum_by-cons (λ y. cond (p y) 1 0) x xs in
      omega (arith, live, closed, live_and_closed xs, either (p x))
    where
      either : (b : Bool) → cond (not b) 1 0 + cond b 1 0 ≡ 1
      either true = refl
      either false = refl

  pub live_more : (x : A) (xs : List A) → p x ≡ false → live_count p (x ∷ xs) ≡ live_count p xs + 1
  unfolding live_count
  live_more x xs live =
      let cons = sum_by-cons (λ y. cond (not (p y)) 1 0) x xs in
      let one = ap {B = ℕ} (λ b. cond (not b) 1 0) live in
      omega (arith, cons, one)

  -- where none is closed all are live
  pub all_live : (xs : List A) → last_where p xs ≡ None → live_count p xs ≡ length xs
  unfolding live_count
  all_live [] none = refl
  all_live (x ∷ xs) none = by (last_where p xs) (all_live xs) (p x) refl none
    where
      by : (o : Option ℕ) → (o ≡ None → live_count p xs ≡ length xs) → (b : Bool) → p x ≡ b
          → later_or_here b o ≡ None → live_count p (x ∷ xs) ≡ length (x ∷ xs)
      by (Some k) rest b at is = absurd (cc)
      by None rest true at is = absurd (cc)
      by None rest false at is = let all = rest refl in omega (arith, live_more x xs at, all)

-- ---- a table whose items are seen in another way

module _ {A B : Type 0} (f : A → B) (p : A → Bool) (q : B → Bool) (same : (x : A) → q (f x) ≡ p x) where
  last_where-map : (xs : List A) → last_where q (map f xs) ≡ last_where p xs
  last_where-map [] = refl
  last_where-map (x ∷ xs) =
      ap (λ b. later_or_here b (last_where q (map f xs))) (same x) ∙ ap (later_or_here (p x)) (last_where-map xs)

  pub free_number-map : (xs : List A) → free_number q (map f xs) ≡ free_number p xs
  unfolding free_number
  free_number-map xs = rw (last_where-map xs, length-map xs f) refl

  pub with_new-map : (xs : List A) (y : A) → map f (with_new p xs y) ≡ with_new q (map f xs) (f y)
  unfolding with_new
  with_new-map xs y = rw (last_where-map xs) (by (last_where p xs))
    where
      by : (o : Option ℕ) → map f (put_at o y xs) ≡ put_at o (f y) (map f xs)
      by (Some n) = map-set f xs n y
      by None = map-append f xs (y ∷ [])

  pub live_count-map : (xs : List A) → live_count q (map f xs) ≡ live_count p xs
  unfolding live_count
  live_count-map [] = refl
  live_count-map (x ∷ xs) =
      let seen = sum_by-cons (λ y. cond (not (q y)) 1 0) (f x) (map f xs) in
      let was = sum_by-cons (λ y. cond (not (p y)) 1 0) x xs in
      let one = ap {B = ℕ} (λ b. cond (not b) 1 0) (same x) in
      omega (arith, seen, was, one, live_count-map xs)

-- ---- the first descriptors, of which none is closed

none_given : (place : ℕ) (preopens : List P1Preopen) → last_where is_closed_slot (preopen_slots place preopens) ≡ None
none_given place [] = refl
none_given place (p ∷ ps) = ap (later_or_here false) (none_given (suc place) ps)

given_behind : (place : ℕ) (preopens : List P1Preopen) (p : P1Preopen)
    → preopen_slots place (preopens ++ p ∷ []) ≡ preopen_slots place preopens ++ preopen_slot (place + length preopens) p ∷ []
given_behind place [] p = let same : place ≡ place + 0 = omega arith in ap (λ n. preopen_slot n p ∷ []) same
given_behind place (q ∷ qs) p =
    let same : suc place + length qs ≡ place + suc (length qs) = omega arith in
    ap (λ slots. preopen_slot place q ∷ slots)
    (given_behind (suc place) qs p ∙ ap (λ n. preopen_slots (suc place) qs ++ preopen_slot n p ∷ []) same)

-- so that one more stands after them
pub given_more : (place : ℕ) (preopens : List P1Preopen) (p : P1Preopen) → length preopens ≡ place
    → with_new is_closed_slot (first_slots preopens) (preopen_slot place p) ≡ first_slots (preopens ++ p ∷ [])
unfolding with_new
given_more place preopens p long =
    let none = ap (λ o. later_or_here false (later_or_here false (later_or_here false o))) (none_given 0 preopens) in
    let same : 0 + length preopens ≡ place = omega (arith, long) in
    rw (none, given_behind 0 preopens p, same) refl

given_live : (place : ℕ) (preopens : List P1Preopen)
    → live_count is_closed_slot (preopen_slots place preopens) ≡ length preopens
unfolding live_count
given_live place [] = refl
given_live place (p ∷ ps) = omega (
  arith,
  live_more is_closed_slot (preopen_slot place p) (preopen_slots (suc place) ps) refl,
  given_live (suc place) ps,
)

-- and all are live
pub first_live : (preopens : List P1Preopen) → live_count is_closed_slot (first_slots preopens) ≡ 3 + length preopens
first_live preopens = omega (
  arith,
  live_more is_closed_slot (Stream Input) (Stream Output ∷ Stream Error ∷ preopen_slots 0 preopens) refl,
  live_more is_closed_slot (Stream Output) (Stream Error ∷ preopen_slots 0 preopens) refl,
  live_more is_closed_slot (Stream Error) (preopen_slots 0 preopens) refl,
  given_live 0 preopens,
)
