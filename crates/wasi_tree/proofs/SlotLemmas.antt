-- The slots of handles beside the map of what live handles stand for.
use Rattle.std.proofs.Common.{◌≡◌, ◌≢◌, ◌<◌, ℕ, zero, suc, ◌+◌, true, false, List, [], ◌∷◌, Option, Some, None, IsSome, is_some, inl, inr, refl, sym, ap, ◌∙◌, subst, arith, rules, slice_index_or}
use Rattle.std.proofs.lemmas.Bool.{cases_eq}
use Rattle.std.proofs.lemmas.Bool.Decides.{nat_tests}
use Rattle.std.specs.Ordering.{nat_cmp}
use Rattle.std.specs.FinMap as maps
use Rattle.std.specs.FinSet.{contains, empty, insert, remove, members, contains-empty, contains-from_list, same_set, nat_cmp-IsAntisymmetric}
use Rattle.std.specs.Cmp.{nat_cmp_total}
use Rattle.slab.specs.Slab.{Slab, Updates}
use Rattle.wasi_host.specs.Tree.{Tree}
use Rattle.wasi_host.specs.HostLaws.{IsHeld}
use Rattle.wasi_host.specs.declared.open_handle.OpenHandle.{OpenHandle}
use Rattle.wasi_tree.specs.MemState.{HeldMap, live_of, held_in, or_nothing}
use Rattle.wasi_tree.specs.LiveSlots.{handles_from, handles_in}
use Rattle.wasi_tree.specs.Sound.{HoldsNodes}

get_before : (k : ℕ) (slots : List (Option OpenHandle)) (q : ℕ) → q < k → maps.get (handles_from k slots) q ≡ None
get_before k [] q before = maps.get-empty nat_cmp q
get_before k (None ∷ slots) q before = get_before (k + 1) slots q (omega arith)
get_before k (Some held ∷ slots) q before = grind (arith, maps.gets, nat_tests, get_before (k + 1) slots q (omega arith))

get_at : (k : ℕ) (slots : List (Option OpenHandle)) (n q : ℕ) → q ≡ k + n
    → maps.get (handles_from k slots) q ≡ slice_index_or slots n None
get_at k [] n q is = maps.get-empty nat_cmp q
get_at k (None ∷ slots) zero q is = get_before (k + 1) slots q (omega arith)
get_at k (None ∷ slots) (suc n) q is = get_at (k + 1) slots n q (omega arith)
get_at k (Some held ∷ slots) zero q is = grind (arith, maps.gets, nat_tests)
get_at k (Some held ∷ slots) (suc n) q is = grind (arith, maps.gets, nat_tests, get_at (k + 1) slots n q (omega arith))

-- a handle holds what is in its slot
get-handles_in : (slots : List (Option OpenHandle)) (q : ℕ) → maps.get (handles_in slots) q ≡ slice_index_or slots q None
unfolding handles_in
get-handles_in slots q = get_at 0 slots q q (omega arith)

contains-live_of : (handles : HeldMap) (q : ℕ) → contains (live_of handles) q ≡ is_some (maps.get handles q)
unfolding live_of
contains-live_of handles q = contains-from_list nat_cmp_total (maps.keys handles) q ∙ sym (maps.contains_key-keys handles q)

-- a handle is live where its slot is taken
pub contains-live : (slots : List (Option OpenHandle)) (q : ℕ)
    → contains (live_of (handles_in slots)) q ≡ is_some (slice_index_or slots q None)
contains-live slots q = contains-live_of (handles_in slots) q ∙ ap is_some (get-handles_in slots q)

held-slot : (slots : List (Option OpenHandle)) (q : ℕ)
    → held_in (handles_in slots) q ≡ or_nothing (slice_index_or slots q None)
unfolding held_in
held-slot slots q = ap or_nothing (get-handles_in slots q)

-- nothing is live where there is no slot
pub live-none : live_of (handles_in []) ≡ empty
unfolding live_of handles_in
live-none = same_set nat_cmp_total nat_cmp-IsAntisymmetric _ _ (λ q. contains-live [] q ∙ sym (contains-empty nat_cmp q))

-- a handle was given
pub live-given : (old new : Slab OpenHandle) (h : ℕ) (held : OpenHandle) → Updates old new h (Some held)
    → live_of (handles_in new.slots) ≡ insert (live_of (handles_in old.slots)) h
live-given old new h held updates = same_set nat_cmp_total nat_cmp-IsAntisymmetric _ _ (λ q. elim (cases_eq q h) [
  | inl here ↦ grind (arith, members, nat_tests, contains-live, updates.changed)
  | inr other ↦ grind (arith, members, nat_tests, contains-live, updates.others q other)
])

-- a handle was taken back
pub live-released : (old new : Slab OpenHandle) (h : ℕ) → Updates old new h None
    → live_of (handles_in new.slots) ≡ remove (live_of (handles_in old.slots)) h
live-released old new h updates = same_set nat_cmp_total nat_cmp-IsAntisymmetric _ _ (λ q. elim (cases_eq q h) [
  | inl here ↦ grind (arith, members, nat_tests, contains-live, updates.changed)
  | inr other ↦ grind (arith, members, nat_tests, contains-live, updates.others q other)
])

pub held-changed : (old new : Slab OpenHandle) (h : ℕ) (slot : Option OpenHandle) → Updates old new h slot
    → held_in (handles_in new.slots) h ≡ or_nothing slot
held-changed old new h slot updates = held-slot new.slots h ∙ ap or_nothing updates.changed

pub held-other : (old new : Slab OpenHandle) (h q : ℕ) (slot : Option OpenHandle) → Updates old new h slot → q ≢ h
    → held_in (handles_in new.slots) q ≡ held_in (handles_in old.slots) q
held-other old new h q slot updates other = held-slot new.slots q ∙ ap or_nothing (updates.others q other) ∙ sym (held-slot old.slots q)

-- For `grind`: the first part of each conclusion shows the call to match.
pub live_taken : (slots : List (Option OpenHandle)) (h : ℕ) → contains (live_of (handles_in slots)) h ≡ true
    → (contains (live_of (handles_in slots)) h ≡ true) × (IsSome (slice_index_or slots h None)) × (slice_index_or slots h None ≡ Some (held_in (handles_in slots) h))
live_taken slots h live =
    let found = sym (contains-live slots h) ∙ live in
    (live, some_is (slice_index_or slots h None) found, taken_is (slice_index_or slots h None) found ∙ ap Some (sym (held-slot slots h)))
  where
    some_is : (slot : Option OpenHandle) → is_some slot ≡ true → IsSome slot
    some_is None is = absurd (cc)
    some_is (Some held) is = search rules

    taken_is : (slot : Option OpenHandle) → is_some slot ≡ true → slot ≡ Some (or_nothing slot)
    taken_is None is = absurd (cc)
    taken_is (Some held) is = refl

pub free_slot : (slots : List (Option OpenHandle)) (h : ℕ) → slice_index_or slots h None ≡ None
    → contains (live_of (handles_in slots)) h ≡ false
free_slot slots h free = contains-live slots h ∙ ap is_some free

pub ruleset slot_rules = (live-none, live-given, live-released, held-changed, held-other, live_taken, free_slot, members, nat_tests)

-- handles are given back: those that stay hold what they held
pub holds-released : (tree : Tree) (HasRoom : ℕ → Type 0) (old new : HeldMap) (h : ℕ) → HoldsNodes tree HasRoom old
    → live_of new ≡ remove (live_of old) h
    → ((q : ℕ) → contains (live_of new) q ≡ true → held_in new q ≡ held_in old q) → HoldsNodes tree HasRoom new
holds-released tree HasRoom old new h holds live others = record {
  each = λ q is. subst (IsHeld tree) (sym (others q is)) (holds.each q (before q is));
  room = λ q is. subst (λ (held : OpenHandle). HasRoom held.node) (sym (others q is)) (holds.room q (before q is));
}
  where
    before : (q : ℕ) → contains (live_of new) q ≡ true → contains (live_of old) q ≡ true
    before q is = grind (arith, members, nat_tests)

-- a handle is given for a node of the tree that has room
pub holds-given : (tree : Tree) (HasRoom : ℕ → Type 0) (old new : HeldMap) (h : ℕ) (held : OpenHandle)
    → HoldsNodes tree HasRoom old → live_of new ≡ insert (live_of old) h → held_in new h ≡ held → IsHeld tree held
    → HasRoom held.node → ((q : ℕ) → contains (live_of old) q ≡ true → held_in new q ≡ held_in old q)
    → HoldsNodes tree HasRoom new
holds-given tree HasRoom old new h held holds live is one room others = record {
  each = λ q here. of q here (IsHeld tree) one (holds.each q);
  room = λ q here. of q here (λ (held : OpenHandle). HasRoom held.node) room (holds.room q);
}
  where
    of : (q : ℕ) → contains (live_of new) q ≡ true → (P : OpenHandle → Type 0) → P held
        → (contains (live_of old) q ≡ true → P (held_in old q)) → P (held_in new q)
    of q here P given kept = elim (cases_eq q h) [
      | inl same ↦ subst (λ p. P (held_in new p)) (sym same) (subst P (sym is) given)
      | inr other ↦
          let before : contains (live_of old) q ≡ true = grind (arith, members, nat_tests) in
          subst P (sym (others q before)) (kept before)
    ]
