-- Lists that are made of numbers: what holds of each element, sums of which few terms aren't 0, and tests of all.
use Rattle.std.proofs.Common.{◌≡◌, ℕ, zero, suc, ◌+◌, ◌<◌, ◌≤◌, ◌⊎◌, Bool, true, List, [], ◌∷◌, ◌++◌, map, length, refl, sym, ap, ◌∙◌, subst, arith, inl, inr}
use Rattle.std.specs.Prelude.{slice_get, sum_by}
use Rattle.std.specs.List.{list_all, range_with_len}
use Rattle.std.specs.Option.{ForSome}
use Rattle.std.proofs.lemmas.Bool.{cases_lt}
use Rattle.std.proofs.lemmas.List.Sums.{sum_by-cons}

-- what holds of each element and of its place, the first of which is a
abbrev pub Each : {X : Type 0} → (ℕ → X → Type 0) → ℕ → List X → Type 0
Each P a [] = Unit {0}
Each P a (x ∷ xs) = P a x × Each P (suc a) xs

pub each_get : {X : Type 0} (P : ℕ → X → Type 0) (a : ℕ) (xs : List X) → Each P a xs
    → (k : ℕ) → ForSome (slice_get xs k) (P (a + k))
each_get P a [] each k = λ y is. absurd (cc)
each_get P a (x ∷ xs) each zero = λ y is.
    let same : x ≡ y = cc in
    let place : a ≡ a + zero = omega arith in
    subst (λ m. P m y) place (subst (P a) same each.0)
each_get P a (x ∷ xs) each (suc k) = λ y is.
    let place : suc a + k ≡ a + suc k = omega arith in
    subst (λ m. P m y) place (each_get P (suc a) xs each.1 k y is)

pub each_append : {X : Type 0} (P : ℕ → X → Type 0) (a b : ℕ) (xs ys : List X) → b ≡ a + length xs → Each P a xs
    → Each P b ys → Each P a (xs ++ ys)
each_append P a b [] ys is each more = let same : b ≡ a = omega arith in subst (λ m. Each P m ys) same more
each_append P a b (x ∷ xs) ys is each more = (each.0, each_append P (suc a) b xs ys (omega arith) each.1 more)

pub each_made : {X : Type 0} (P : ℕ → X → Type 0) (f : ℕ → X) (c a m : ℕ)
    → ((i : ℕ) → a ≤ i → i < a + m → P (c + i) (f i)) → Each P (c + a) (map f (range_with_len a m))
each_made P f c a zero holds = tt
each_made P f c a (suc m) holds =
    let place : c + (a + 1) ≡ suc (c + a) = omega arith in
    let rest = each_made P f c (a + 1) m (λ i low high. holds i (omega arith) (omega arith)) in
    (holds a (omega arith) (omega arith), subst (λ k. Each P k (map f (range_with_len (a + 1) m))) place rest)

-- ---- sums

pub none_hit : (g : ℕ → ℕ) (a m : ℕ) → ((i : ℕ) → a ≤ i → i < a + m → g i ≡ 0) → sum_by g (range_with_len a m) ≡ 0
none_hit g a zero none = refl
none_hit g a (suc m) none =
    let rest = none_hit g (a + 1) m (λ i low high. none i (omega arith) (omega arith)) in
    let here = none a (omega arith) (omega arith) in
    sum_by-cons g a (range_with_len (a + 1) m) ∙ rw (here, rest) refl

pub one_hit : (g : ℕ → ℕ) (a m j : ℕ) → a ≤ j → j < a + m → g j ≡ 1
    → ((i : ℕ) → a ≤ i → i < a + m → (i ≡ j → ⊥) → g i ≡ 0) → sum_by g (range_with_len a m) ≡ 1
one_hit g a zero j low high hit others = absurd (omega arith)
one_hit g a (suc m) j low high hit others =
    by (cases_lt a j) (λ less. one_hit g (a + 1) m j (omega arith) (omega arith) hit
    (λ i i-low i-high other. others i (omega arith) (omega arith) other))
  where
    by : (a < j) ⊎ (j ≤ a) → (a < j → sum_by g (range_with_len (a + 1) m) ≡ 1) → sum_by g (range_with_len a (suc m)) ≡ 1
    by (inl less) later =
        let rest = later less in
        let here = others a (omega arith) (omega arith) (λ same. omega arith) in
        sum_by-cons g a (range_with_len (a + 1) m) ∙ rw (here, rest) refl
    by (inr most) later =
        let same : j ≡ a = omega arith in
        let here : g a ≡ 1 = subst (λ i. g i ≡ 1) same hit in
        let rest = none_hit g (a + 1) m (λ i i-low i-high. others i (omega arith) (omega arith) (λ is. omega arith)) in
        sum_by-cons g a (range_with_len (a + 1) m) ∙ rw (here, rest) refl

pub sum_made : {X : Type 0} (u : X → ℕ) (f : ℕ → X) (is : List ℕ) → sum_by u (map f is) ≡ sum_by (λ i. u (f i)) is
sum_made u f [] = refl
sum_made u f (i ∷ is) =
    sum_by-cons u (f i) (map f is) ∙ ap (λ n. u (f i) + n) (sum_made u f is) ∙ sym (sum_by-cons (λ k. u (f k)) i is)

-- ---- tests

pub all_made : {X : Type 0} (p : X → Bool) (f : ℕ → X) (a m : ℕ)
    → ((i : ℕ) → a ≤ i → i < a + m → p (f i) ≡ true) → list_all p (map f (range_with_len a m)) ≡ true
all_made p f a zero holds = refl
all_made p f a (suc m) holds =
    let rest = all_made p f (a + 1) m (λ i low high. holds i (omega arith) (omega arith)) in
    rw (holds a (omega arith) (omega arith), rest) refl
