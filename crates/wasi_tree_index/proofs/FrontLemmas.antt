use Rattle.std.proofs.Common.{◌≡◌, ℕ, zero, suc, ◌+◌, ◌<◌, ◌≤◌, Bool, true, false, cond, List, [], ◌∷◌, length, get_or, refl, sym, ap, ◌∙◌, arith}
use Rattle.std.proofs.lemmas.Bool.{true≢false}
use Rattle.std.specs.List.Sorted.{IsPartitionedBy, IsPartitionPoint}
use Rattle.wasi_tree_index.specs.Fronts.{front_len}

module _ {X : Type 0} (p : X → Bool) where
  abbrev pub AllFail : List X → Type 0
  AllFail [] = Unit {0}
  AllFail (x ∷ xs) = (p x ≡ false) × AllFail xs

  -- from the first failure on, all fail
  abbrev pub IsClosed : List X → Type 0
  IsClosed [] = Unit {0}
  IsClosed (x ∷ xs) = (p x ≡ false → AllFail xs) × IsClosed xs

  fails_at : (xs : List X) → AllFail xs → (j : ℕ) (d : X) → j < length xs → p (get_or xs j d) ≡ false
  fails_at [] h j d lt = absurd (omega arith)
  fails_at (x ∷ xs) h zero d lt = h.0
  fails_at (x ∷ xs) h (suc j) d lt = fails_at xs h.1 j d (omega arith)

  passes_first : (x : X) (xs : List X) → (p x ≡ false → AllFail xs) → (j : ℕ) (d : X) → j < length xs
      → p (get_or xs j d) ≡ true → p x ≡ true
  passes_first x xs h j d lt t = elim (p x) as (λ b. p x ≡ b → b ≡ true) [
    | true ↦ λ e. refl
    | false ↦ λ e. absurd (true≢false (sym t ∙ fails_at xs (h e) j d lt))
  ] refl

  pub partitioned : (xs : List X) → IsClosed xs → IsPartitionedBy p xs
  partitioned [] h i j d le lt t = absurd (omega arith)
  partitioned (x ∷ xs) h zero zero d le lt t = t
  partitioned (x ∷ xs) h zero (suc j) d le lt t = passes_first x xs h.0 j d (omega arith) t
  partitioned (x ∷ xs) h (suc i) zero d le lt t = absurd (omega arith)
  partitioned (x ∷ xs) h (suc i) (suc j) d le lt t = partitioned xs h.1 i j d (omega arith) (omega arith) t

  -- one that stands before one that passes, whatever is meant outside the list
  passing : (xs : List X) → IsClosed xs → (i j : ℕ) (d e : X) → i ≤ j → j < length xs → p (get_or xs j e) ≡ true
      → p (get_or xs i d) ≡ true
  passing [] closed i j d e le lt t = absurd (omega arith)
  passing (x ∷ xs) closed zero zero d e le lt t = t
  passing (x ∷ xs) closed zero (suc j) d e le lt t = passes_first x xs closed.0 j e (omega arith) t
  passing (x ∷ xs) closed (suc i) zero d e le lt t = absurd (omega arith)
  passing (x ∷ xs) closed (suc i) (suc j) d e le lt t = passing xs closed.1 i j d e (omega arith) (omega arith) t

  -- the point between those that pass and those that fail is how many are at the front that pass
  pub front_is : (xs : List X) (i : ℕ) → i ≤ length xs
      → IsPartitionPoint (λ y. p y ≡ true) (λ y. p y ≡ false) xs i → i ≡ front_len p xs
  unfolding front_len
  front_is [] i le h = omega arith
  front_is (x ∷ xs) zero le h =
      let f : p x ≡ false = h.1 0 x (omega arith) (omega arith) in rw f refl
  front_is (x ∷ xs) (suc i) le h =
      let t : p x ≡ true = h.0 0 x (omega arith) (omega arith) in
      rw t (ap suc (front_is xs i (omega arith) (
        λ k d lo hi. h.0 (suc k) d (omega arith) (omega arith),
        λ k d lo hi. h.1 (suc k) d (omega arith) (omega arith),
      )))

  -- where the last one passes, all do
  pub front_all : (xs : List X) (k : ℕ) (d : X) → k + 1 ≡ length xs → IsClosed xs → p (get_or xs k d) ≡ true
      → front_len p xs ≡ length xs
  front_all xs k d last closed passes = sym (front_is xs (length xs) (omega arith) (
    λ i e lo hi. passing xs closed i k e d (omega arith) (omega arith) passes,
    λ i e lo hi. absurd (omega arith),
  ))

  pub front_within : (xs : List X) → front_len p xs ≤ length xs
  unfolding front_len
  front_within [] = omega arith
  front_within (x ∷ xs) = elim (p x) as (λ b. cond b (suc (front_len p xs)) 0 ≤ suc (length xs)) [
    | true ↦ let rest = front_within xs in omega arith
    | false ↦ omega arith
  ]
