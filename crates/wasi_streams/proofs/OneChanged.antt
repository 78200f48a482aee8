-- A list that changes at one place.
use Rattle.std.proofs.Common.{zero, suc, ◌≡◌, ◌⊎◌, ℕ, List, [], ◌∷◌, ◌++◌, length, slice_get, slice_set, Some, refl, ap, inl, inr}

-- one in place of another
pub set_cases : {A : Type 0} (xs : List A) (i n : ℕ) (y : A)
    → (slice_get (slice_set xs i y) n ≡ slice_get xs n) ⊎ ((n ≡ i) × (slice_get (slice_set xs i y) n ≡ Some y))
set_cases [] i n y = inl refl
set_cases (x ∷ xs) zero zero y = inr (refl, refl)
set_cases (x ∷ xs) zero (suc n) y = inl refl
set_cases (x ∷ xs) (suc i) zero y = inl refl
set_cases (x ∷ xs) (suc i) (suc n) y =
    elim (set_cases xs i n y) [ inl same ↦ inl same | inr new ↦ inr (ap suc new.0, new.1) ]

-- one after all
pub push_cases : {A : Type 0} (xs : List A) (n : ℕ) (y : A)
    → (slice_get (xs ++ y ∷ []) n ≡ slice_get xs n) ⊎ ((n ≡ length xs) × (slice_get (xs ++ y ∷ []) n ≡ Some y))
push_cases [] zero y = inr (refl, refl)
push_cases [] (suc n) y = inl refl
push_cases (x ∷ xs) zero y = inl refl
push_cases (x ∷ xs) (suc n) y =
    elim (push_cases xs n y) [ inl same ↦ inl same | inr new ↦ inr (ap suc new.0, new.1) ]
