-- Two descriptors that take each other's number, before one of them is closed.
use Rattle.std.proofs.Common.{ℕ, ◌<◌, ◌==◌, ◌≡◌, ◌≢◌, Bool, true, false, cond, List, length, map, get_or, slice_set, refl, ap, sym, subst, ◌∙◌, arith}
use Rattle.std.specs.List.{swap}
use Rattle.std.proofs.lemmas.Bool.Decides.{nat_tests}
use Rattle.std.proofs.lemmas.List.{length-set, map-set, set-set, set_comm}
use Rattle.std.proofs.lemmas.List.Edits.{length-swap, swap_is, swapped_from_swap}
use Rattle.std.proofs.Math.ListN.{get_or-map}
use Rattle.wasi_streams.specs.Table.{Entries}
use Rattle.wasi_p1_state.specs.Descriptors.{AreKept, HoldsClosed}
use Rattle.wasi_p1_types.specs.Items.{resource_in, slot_in, slots_of, IsOfKind, AreNamed}
use Rattle.wasi_p1_types.specs.Numbering.{passes_at, renumbered}
use Rattle.wasi_p1_types.specs.Slots.{is_closed_slot}
use Rattle.wasi_p1_types.specs.declared.slots.Slot.{Slot}
use Rattle.wasi_p1_types.specs.declared.slots.Slot.TheVariants as slots
use Rattle.wasi_p1_types.specs.declared.items.Item.{Item}
use Rattle.wasi_p1_types.specs.declared.items.Item.TheVariants.{Closed}
use Rattle.wasi_p1_state.proofs.ClosedHeap.{holds_set}
use Rattle.wasi_p1_model.proofs.Numbers.{other_number, passes_at-get_or, passes_at-set_other, same_number}
use Rattle.wasi_p1_model.proofs.Renumbering.{AreTwo}
use Rattle.wasi_p1_state.proofs.Tabled.{is_given}

-- ---- where an item stood

module _ (i j : ℕ) where
  -- the number at which the item of this one stood
  abbrev before : ℕ → ℕ
  before k = cond (k == i) j (cond (k == j) i k)

  twice : (k : ℕ) → before (before k) ≡ k
  twice k = by (k == i) (k == j) refl refl
    where
      by : (b c : Bool) → (k == i) ≡ b → (k == j) ≡ c → before (cond b j (cond c i k)) ≡ k
      by true c is is' = grind (arith, nat_tests)
      by false true is is' = grind (arith, nat_tests)
      by false false is is' = grind (arith, nat_tests)

  stood : {A : Type 0} (xs : List A) (d : A) → AreTwo xs i j → (k : ℕ)
      → get_or (swap xs i j) k d ≡ get_or xs (before k) d
  stood xs d two k = by (k == i) (k == j) refl refl
    where
      by : (b c : Bool) → (k == i) ≡ b → (k == j) ≡ c → get_or (swap xs i j) k d ≡ get_or xs (cond b j (cond c i k)) d
      by true c is is' =
          ap (λ n. get_or (swap xs i j) n d) (same_number k i is) ∙ (swapped_from_swap xs _ i j d two.one two.other refl).0
      by false true is is' =
          ap (λ n. get_or (swap xs i j) n d) (same_number k j is') ∙ (swapped_from_swap xs _ i j d two.one two.other refl).1
      by false false is is' =
          (swapped_from_swap xs _ i j d two.one two.other refl).2 k (other_number k i is) (other_number k j is')

-- an item takes the other's number: both are exchanged, and then its own becomes closed
renumbered_by_swap : {A : Type 0} {i j : ℕ} (none : A) (xs : List A) → AreTwo xs i j
    → slice_set (swap xs i j) i none ≡ renumbered none xs i j
unfolding renumbered
renumbered_by_swap {i = i} {j = j} none xs two =
    let own = get_or xs i none in
    let theirs = get_or xs j none in
    ap (λ ys. slice_set ys i none) (sym (swap_is xs i j none two.one two.other))
    ∙ set_comm (slice_set xs i theirs) j i own none (λ same. two.apart (sym same))
    ∙ ap (λ ys. slice_set ys j own) (set-set xs i theirs none)

-- ---- live descriptors, beside the resource table, which stays

-- two numbers that stand for something
pub record AreLive (table : List Slot) (i j : ℕ) : Type 0 where
  pub two : AreTwo table i j
  pub one_live : passes_at is_closed_slot table i ≡ false
  pub other_live : passes_at is_closed_slot table j ≡ false

pub are_live : {table : List Slot} {i j : ℕ} → i < length table → passes_at is_closed_slot table i ≡ false
    → j < length table → passes_at is_closed_slot table j ≡ false → i ≢ j → AreLive table i j
are_live within live within' live' apart = record {
  two = record { one = within; other = within'; apart = apart };
  one_live = live;
  other_live = live';
}

-- the closed numbers are those that were
holds_swapped : {heap : List ℕ} {table : List Slot} {i j : ℕ} → AreLive table i j → HoldsClosed heap table
    → HoldsClosed heap (swap table i j)
holds_swapped {heap} {table} {i} {j} are holds =
    let one : is_closed_slot (get_or table i slots.Closed) ≡ false =
    sym (passes_at-get_or is_closed_slot table i slots.Closed are.two.one) ∙ are.one_live in
    let other : is_closed_slot (get_or table j slots.Closed) ≡ false =
    sym (passes_at-get_or is_closed_slot table j slots.Closed are.two.other) ∙ are.other_live in
    let first = holds_set holds (get_or table j slots.Closed) i are.two.one are.one_live other in
    let still =
    passes_at-set_other is_closed_slot table i j (get_or table j slots.Closed) (λ same. are.two.apart (sym same))
    ∙ are.other_live in
    subst (HoldsClosed heap) (swap_is table i j slots.Closed are.two.one are.two.other)
    (holds_set first (get_or table i slots.Closed) j (simp length-set are.two.other) still one)

module _ (table : Entries) (items : List Item) {i j : ℕ} (are : AreLive (slots_of table items) i j) where
  given : AreTwo items i j
  given = record {
    one = is_given table items i are.two.one;
    other = is_given table items j are.two.other;
    apart = are.two.apart;
  }

  swapped_named : AreNamed table items → AreNamed table (swap items i j)
  swapped_named named = record {
    kinds = λ k. subst (IsOfKind table) (sym (stood i j items Closed given k)) (named.kinds (before i j k));
    apart = λ k l r is is'.
        let here = sym (ap resource_in (stood i j items Closed given k)) ∙ is in
        let there = sym (ap resource_in (stood i j items Closed given l)) ∙ is' in
        sym (twice i j k) ∙ ap (before i j) (named.apart (before i j k) (before i j l) r here there) ∙ twice i j l;
    all = λ r e has.
        let was = named.all r e has in (
          before i j was.0,
          ap resource_in (stood i j items Closed given (before i j was.0)
              ∙ ap (λ n. get_or items n Closed) (twice i j was.0)) ∙ was.1,
        );
  }

  pub swapped_slots : slots_of table (swap items i j) ≡ swap (slots_of table items) i j
  unfolding slots_of
  swapped_slots =
      ap (map (slot_in table)) (sym (swap_is items i j Closed given.one given.other))
      ∙ map-set (slot_in table) (slice_set items i (get_or items j Closed)) j (get_or items i Closed)
      ∙ ap (λ xs. slice_set xs j (slot_in table (get_or items i Closed)))
      (map-set (slot_in table) items i (get_or items j Closed))
      ∙ (λ k. slice_set
      (slice_set (map (slot_in table) items) i (sym (get_or-map (slot_in table) items j Closed) k)) j
      (sym (get_or-map (slot_in table) items i Closed) k))
      ∙ swap_is (map (slot_in table) items) i j slots.Closed are.two.one are.two.other

  pub swapped_kept : {heap : List ℕ} {capacity : ℕ} → AreKept heap capacity items table
      → AreKept heap capacity (swap items i j) table
  swapped_kept kept = record {
    indexed = rw swapped_slots (record {
      closed = holds_swapped are kept.indexed.closed;
      room = simp length-swap kept.indexed.room;
    });
    named = swapped_named kept.named;
    count = simp length-swap kept.count;
  }

  -- the first can be closed then, which leaves the other under its number
  pub swapped_within : i < length (slots_of table (swap items i j))
  swapped_within = rw (swapped_slots, length-swap) are.two.one

  -- what stands under its number is the other
  pub swapped_first : get_or (slots_of table (swap items i j)) i slots.Closed
      ≡ get_or (slots_of table items) j slots.Closed
  swapped_first = ap (λ xs. get_or xs i slots.Closed) swapped_slots
      ∙ (swapped_from_swap (slots_of table items) _ i j slots.Closed are.two.one are.two.other refl).0

  pub swapped_live : passes_at is_closed_slot (slots_of table (swap items i j)) i ≡ false
  swapped_live =
      let here = stood i j (slots_of table items) slots.Closed are.two i ∙ before_first in
      ap (λ xs. passes_at is_closed_slot xs i) swapped_slots
      ∙ passes_at-get_or is_closed_slot (swap (slots_of table items) i j) i slots.Closed (simp length-swap are.two.one)
      ∙ ap is_closed_slot here
      ∙ sym (passes_at-get_or is_closed_slot (slots_of table items) j slots.Closed are.two.other) ∙ are.other_live
    where
      before_first : get_or (slots_of table items) (before i j i) slots.Closed
          ≡ get_or (slots_of table items) j slots.Closed
      before_first = ap (λ n. get_or (slots_of table items) n slots.Closed)
          (let same : (i == i) ≡ true = grind (arith, nat_tests) in ap (λ b. cond b j (cond (i == j) i i)) same)

  pub swapped_then_closed : slice_set (slots_of table (swap items i j)) i slots.Closed
      ≡ renumbered slots.Closed (slots_of table items) i j
  swapped_then_closed =
      ap (λ xs. slice_set xs i slots.Closed) swapped_slots ∙ renumbered_by_swap slots.Closed (slots_of table items) are.two
