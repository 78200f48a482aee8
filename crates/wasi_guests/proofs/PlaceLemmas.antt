-- Items of a list by their places.
use Rattle.std.proofs.Common.{ℕ, zero, suc, ◌-◌, ◌<◌, ◌≡◌, ◌≢◌, List, [], ◌∷◌, ◌++◌, length, map, refl, ap, ◌∙◌, arith, Some, slice_get, slice_set}
use Rattle.wasi_tree_index.proofs.RunLemmas.{get_behind}

pub some_same : {A : Type 0} {x y : A} → Some x ≡ Some y → x ≡ y
some_same is = cc

-- a place before a list's end has an item
pub is_there : {A : Type 0} (xs : List A) (i : ℕ) → i < length xs → (x : A) × (slice_get xs i ≡ Some x)
is_there [] i within = absurd (omega arith)
is_there (x ∷ xs) zero within = (x, refl)
is_there (x ∷ xs) (suc i) within = is_there xs i (omega arith)

-- the item that was set is there
pub set_here : {A : Type 0} (xs : List A) (i : ℕ) (x : A) → i < length xs → slice_get (slice_set xs i x) i ≡ Some x
set_here [] i x within = absurd (omega arith)
set_here (y ∷ xs) zero x within = refl
set_here (y ∷ xs) (suc i) x within = set_here xs i x (omega arith)

-- the others are as they were
pub set_apart : {A : Type 0} (xs : List A) (i k : ℕ) (x : A) → k ≢ i → slice_get (slice_set xs i x) k ≡ slice_get xs k
set_apart [] i k x other = refl
set_apart (y ∷ xs) zero zero x other = absurd (other refl)
set_apart (y ∷ xs) zero (suc k) x other = refl
set_apart (y ∷ xs) (suc i) zero x other = refl
set_apart (y ∷ xs) (suc i) (suc k) x other = set_apart xs i k x (λ e. other (ap (λ n. suc n) e))

-- the item after a list is at its end
pub got_last : {A : Type 0} (xs : List A) (x : A) → slice_get (xs ++ x ∷ []) (length xs) ≡ Some x
got_last xs x = get_behind xs (x ∷ []) (length xs) (omega arith)
    ∙ let first : length xs - length xs ≡ 0 = omega arith in ap (slice_get (x ∷ [])) first

-- lists of which the items at each place are alike are alike
pub map_alike : {A B C : Type 0} (f : A → C) (g : B → C) (xs : List A) (ys : List B) → length xs ≡ length ys
    → ((i : ℕ) (x : A) (y : B) → slice_get xs i ≡ Some x → slice_get ys i ≡ Some y → f x ≡ g y) → map f xs ≡ map g ys
map_alike f g [] [] same each = refl
map_alike f g [] (y ∷ ys) same each = absurd (omega arith)
map_alike f g (x ∷ xs) [] same each = absurd (omega arith)
map_alike f g (x ∷ xs) (y ∷ ys) same each =
    let rest = map_alike f g xs ys (omega arith) (λ i. each (suc i)) in λ k. each 0 x y refl refl k ∷ rest k

-- a list of items that stay
pub map_same : {A : Type 0} (xs : List A) → map (λ x. x) xs ≡ xs
map_same [] = refl
map_same (x ∷ xs) = ap (λ l. x ∷ l) (map_same xs)
