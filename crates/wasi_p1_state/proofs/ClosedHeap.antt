-- The heap of the closed numbers, as descriptors change.
use Rattle.std.proofs.Common.{ℕ, ◌+◌, ◌<◌, ◌≤◌, ◌==◌, ◌≡◌, Bool, true, false, cond, List, [], ◌∷◌, ◌++◌, length, slice_set, refl, ap, sym, ◌∙◌, subst, arith}
use Rattle.std.specs.Prelude.{count_by, IsPermutation}
use Rattle.std.specs.BinaryHeap.{IsHeap, IsUpperBound}
use Rattle.std.specs.Ordering.{nat_cmp}
use Rattle.std.specs.List.{AllByRecursion}
use Rattle.std.proofs.HeapSift.{at_most}
use Rattle.std.proofs.lemmas.Bool.Decides.{nat_tests}
use Rattle.std.proofs.lemmas.List.Sorted.{length_permutation, sum_by-IsPermutation}
use Rattle.std.proofs.lemmas.List.Sums.{sum_by-cons, sum_by-set, sum_by_push, count_by-le-length}
use Rattle.std.proofs.lemmas.List.{length-set}
use Rattle.wasi_p1_types.specs.Numbering.{passes_at, free_number, with_new}
use Rattle.wasi_p1_state.specs.Descriptors.{HoldsClosed}
use Rattle.wasi_p1_model.specs.Owners.{one_if}
use Rattle.wasi_p1_types.specs.Slots.{is_closed_slot}
use Rattle.wasi_p1_types.specs.declared.slots.Slot.{Slot}
use Rattle.wasi_p1_types.specs.declared.slots.Slot.TheVariants.{Closed}
use Rattle.wasi_p1_model.proofs.Numbers.{same_number, other_number, not_true, passes_within, passes_at-get_or, passes_at-set_same, passes_at-set_other, passes_at-push, new_behind, new_under}
use Rattle.wasi_p1_model.proofs.Owning.{live_if}

-- how often a number is in the heap
abbrev times : ℕ → List ℕ → ℕ
times n heap = count_by (λ k. k == n) heap

-- as one of a sum: a slot that is closed
abbrev one_closed : Slot → ℕ
one_closed slot = cond (is_closed_slot slot) 1 0

one_cond : (b : Bool) → cond b 1 0 ≡ one_if b
one_cond true = refl
one_cond false = refl

times-cons : (k n : ℕ) (heap : List ℕ) → times n (k ∷ heap) ≡ one_if (k == n) + times n heap
times-cons k n heap = sum_by-cons (λ j. cond (j == n) 1 0) k heap ∙ ap (λ m. m + times n heap) (one_cond (k == n))

itself : (n : ℕ) → (n == n) ≡ true
itself n = grind (arith, nat_tests)

-- what holds of all numbers of a heap holds of one that is counted
counted : (P : ℕ → Type 0) (n : ℕ) (heap : List ℕ) → AllByRecursion P heap → 1 ≤ times n heap → P n
counted P n [] all some = absurd (omega arith)
counted P n (k ∷ heap) all some = by (k == n) refl (λ more. counted P n heap all.1 more)
  where
    by : (b : Bool) → (k == n) ≡ b → (1 ≤ times n heap → P n) → P n
    by true is rest = subst P (same_number k n is) all.0
    by false is rest = rest (let none = ap one_if is in omega (arith, times-cons k n heap, none, some))

module _ {heap : List ℕ} {table : List Slot} (holds : HoldsClosed heap table) where
  abbrev closed_at : ℕ → Bool
  closed_at n = passes_at is_closed_slot table n

  -- and with a slot in place of another
  abbrev closed_then : Slot → ℕ → ℕ → Bool
  closed_then slot i n = passes_at is_closed_slot (slice_set table i slot) n

  -- a slot was put in another's place: its number is counted as it is closed, and all others as before
  each_then : (slot : Slot) (k : ℕ) (now : List ℕ) → k < length table → times k now ≡ one_if (is_closed_slot slot)
      → ((n : ℕ) → (k == n) ≡ false → times n now ≡ times n heap)
      → (n : ℕ) → times n now ≡ one_if (closed_then slot k n)
  each_then slot k now within at others n = by (k == n) refl
    where
      by : (b : Bool) → (k == n) ≡ b → times n now ≡ one_if (closed_then slot k n)
      by true is = subst (λ m. times m now ≡ one_if (closed_then slot k m)) (same_number k n is)
          (at ∙ ap one_if (sym (passes_at-set_same is_closed_slot table k slot within)))
      by false is = others n is ∙ holds.each n ∙ ap one_if
          (sym (passes_at-set_other is_closed_slot table k n slot (λ e. other_number k n is (sym e))))

  is_counted : (n : ℕ) → closed_at n ≡ true → 1 ≤ times n heap
  is_counted n is = let one = ap one_if is in omega (arith, holds.each n, one)

  -- ---- an empty heap: the new descriptor stands after all

  pub pushed_new : (slot : Slot) → length heap ≡ 0
      → (length table ≡ free_number is_closed_slot table) × (table ++ slot ∷ [] ≡ with_new is_closed_slot table slot)
  pushed_new slot empty =
      new_behind is_closed_slot table slot
      (λ n. not_true _ (λ is. absurd (omega (arith, none n heap empty, is_counted n is))))
    where
      none : (n : ℕ) (xs : List ℕ) → length xs ≡ 0 → times n xs ≡ 0
      none n [] is = refl
      none n (x ∷ xs) is = absurd (omega arith)

  pub holds_pushed : (slot : Slot) → is_closed_slot slot ≡ false → HoldsClosed heap (table ++ slot ∷ [])
  holds_pushed slot used = record {
    order = holds.order;
    each = λ n. holds.each n ∙ ap one_if (sym (passes_at-push is_closed_slot table n slot used));
    count =
        let is = ap {B = ℕ} (λ b. cond b 1 0) used in omega (arith, holds.count, sum_by_push one_closed table slot, is);
  }

  -- ---- the largest number was popped: the new descriptor takes it

  module _ {top : ℕ} {rest : List ℕ} (moved : IsPermutation heap (top ∷ rest)) where
    popped : (n : ℕ) → times n heap ≡ one_if (top == n) + times n rest
    popped n = sym (sum_by-IsPermutation (λ k. cond (k == n) 1 0) heap (top ∷ rest) moved) ∙ times-cons top n rest

    pub top_closed : passes_at is_closed_slot table top ≡ true
    top_closed = live_if _ (let is = ap one_if (itself top) in omega (arith, popped top, holds.each top, is))

    pub top_within : top < length table
    top_within = passes_within is_closed_slot table top top_closed

    pub taken_new : (slot : Slot) → IsUpperBound nat_cmp top heap
        → (top ≡ free_number is_closed_slot table) × (slice_set table top slot ≡ with_new is_closed_slot table slot)
    taken_new slot above =
        new_under is_closed_slot table top slot top_closed
        (λ n is. at_most top n (counted _ n heap above (is_counted n is)))

    pub holds_taken : (slot : Slot) → is_closed_slot slot ≡ false → IsHeap nat_cmp rest
        → HoldsClosed rest (slice_set table top slot)
    holds_taken slot used order = record {
      order = order;
      each = each_then slot top rest top_within
          (let one = ap one_if (itself top) in let was = ap one_if top_closed in let none = ap one_if used in
          omega (arith, popped top, holds.each top, one, was, none))
          (λ n is. let none = ap one_if is in omega (arith, popped n, none));
      count =
          let longer = length_permutation heap (top ∷ rest) moved in
          let fewer = sum_by-set one_closed table top slot Closed top_within in
          let was = ap {B = ℕ} (λ b. cond b 1 0)
          (sym (passes_at-get_or is_closed_slot table top Closed top_within) ∙ top_closed) in
          let is = ap {B = ℕ} (λ b. cond b 1 0) used in
          omega (arith, holds.count, longer, fewer, was, is);
    }

  -- ---- a number that was in use becomes closed

  module _ (i : ℕ) (within : i < length table) (was : closed_at i ≡ false) where
    one_more_closed : count_by is_closed_slot (slice_set table i Closed) ≡ count_by is_closed_slot table + 1
    one_more_closed =
        let set = sum_by-set one_closed table i Closed Closed within in
        let before = ap {B = ℕ} (λ b. cond b 1 0) (sym (passes_at-get_or is_closed_slot table i Closed within) ∙ was) in
        omega (arith, set, before)

    -- there is room for it
    pub room_left : length heap < length table
    room_left =
        let most = count_by-le-length is_closed_slot (slice_set table i Closed) in
        omega (arith, most, one_more_closed, holds.count, length-set table i Closed)

    pub holds_closed : {now : List ℕ} → IsPermutation (i ∷ heap) now → IsHeap nat_cmp now
        → HoldsClosed now (slice_set table i Closed)
    holds_closed {now} moved order = record {
      order = order;
      each = each_then Closed i now within
          (let one = ap one_if (itself i) in let none = ap one_if was in omega (arith, pushed i, holds.each i, one, none))
          (λ n is. let none = ap one_if is in omega (arith, pushed n, none));
      count = omega (arith, length_permutation (i ∷ heap) now moved, one_more_closed, holds.count);
    }
      where
        pushed : (n : ℕ) → times n now ≡ one_if (i == n) + times n heap
        pushed n = sum_by-IsPermutation (λ k. cond (k == n) 1 0) (i ∷ heap) now moved ∙ times-cons i n heap

  -- ---- another descriptor under a number that is in use

  pub holds_set : (slot : Slot) (i : ℕ) → i < length table → closed_at i ≡ false → is_closed_slot slot ≡ false
      → HoldsClosed heap (slice_set table i slot)
  holds_set slot i within was used = record {
    order = holds.order;
    each = each_then slot i heap within (holds.each i ∙ ap one_if (was ∙ sym used)) (λ n is. refl);
    count =
        let same = sum_by-set one_closed table i slot Closed within in
        let before = ap {B = ℕ} (λ b. cond b 1 0) (sym (passes_at-get_or is_closed_slot table i Closed within) ∙ was) in
        let after = ap {B = ℕ} (λ b. cond b 1 0) used in
        omega (arith, holds.count, same, before, after);
  }
