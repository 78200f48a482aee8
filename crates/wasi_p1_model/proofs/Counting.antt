-- How many descriptors have a handle, as descriptors change.
use Rattle.std.proofs.Common.{ℕ, suc, zero, ◌+◌, ◌≤◌, ◌==◌, Bool, true, false, Option, Some, None, slice_get, slice_set, List, [], ◌∷◌, ◌++◌, ◌≡◌, ◌⊎◌, inl, inr, refl, ap, ◌∙◌, arith}
use Rattle.std.specs.Prelude.{option_to_list}
use Rattle.std.specs.Option.{option_map}
use Rattle.std.proofs.lemmas.Bool.Decides.{nat_tests}
use Rattle.std.proofs.lemmas.Option.{get_or_from_slice_get, slice_get-map, slice_get_within}
use Rattle.std.proofs.lemmas.List.{map-append, map-set}
use Rattle.std.proofs.lemmas.List.Sums.{sum_by-append, sum_by-cons, sum_by-set, sum_by_push, get_or-le-sum_by}
use Rattle.wasi_p1_model.specs.Owners.{handle_in, handles, one_if, uses_in, uses, IsHandle, under}
use Rattle.wasi_p1_types.specs.declared.slots.Slot.{Slot}

-- ---- a list of handles, some of them missing

pub uses-cons : (o : Option ℕ) (os : List (Option ℕ)) (q : ℕ) → uses (o ∷ os) q ≡ uses_in o q + uses os q
unfolding uses
uses-cons o os q = sum_by-cons (λ o. uses_in o q) o os

uses-append : (os ps : List (Option ℕ)) (q : ℕ) → uses (os ++ ps) q ≡ uses os q + uses ps q
unfolding uses
uses-append os ps q = sum_by-append (λ o. uses_in o q) os ps

pub uses-push : (os : List (Option ℕ)) (o : Option ℕ) (q : ℕ) → uses (os ++ o ∷ []) q ≡ uses os q + uses_in o q
unfolding uses
uses-push os o q = sum_by_push (λ o. uses_in o q) os o

-- one in place of another
pub uses-set : (os : List (Option ℕ)) (i : ℕ) (o was : Option ℕ) (q : ℕ) → slice_get os i ≡ Some was
    → uses (slice_set os i o) q + uses_in was q ≡ uses os q + uses_in o q
unfolding uses
uses-set os i o was q is =
    let set = sum_by-set (λ o. uses_in o q) os i o None (slice_get_within os i was is) in
    let at = ap (λ o. uses_in o q) (get_or_from_slice_get os i was None is) in
    omega (arith, set, at)

pub uses-at : (os : List (Option ℕ)) (i : ℕ) (o : Option ℕ) (q : ℕ) → slice_get os i ≡ Some o → uses_in o q ≤ uses os q
unfolding uses
uses-at os i o q is =
    let le = get_or-le-sum_by (λ o. uses_in o q) os i None (slice_get_within os i o is) in
    let at = ap (λ o. uses_in o q) (get_or_from_slice_get os i o None is) in
    omega (arith, le, at)

no_uses : (q : ℕ) → uses [] q ≡ 0
unfolding uses
no_uses q = refl

pub uses_itself : (h : ℕ) → uses_in (Some h) h ≡ 1
uses_itself h = let same : (h == h) ≡ true = grind (arith, nat_tests) in ap one_if same

pub uses_here : (os : List (Option ℕ)) (i h : ℕ) → slice_get os i ≡ Some (Some h) → 1 ≤ uses os h
uses_here os i h is = omega (arith, uses-at os i (Some h) h is, uses_itself h)

pub one_of : (a b : ℕ) {c : ℕ} → c ≡ a + b → 1 ≤ c → (1 ≤ a) ⊎ (1 ≤ b)
one_of zero b is some = inr (omega (arith, is, some))
one_of (suc a) b is some = inl (omega arith)

-- a handle that an item has is that item's
pub item_is : (o : Option ℕ) (q : ℕ) → 1 ≤ uses_in o q → o ≡ Some q
item_is None q some = absurd (omega arith)
item_is (Some h) q some = by (q == h) refl some
  where
    by : (b : Bool) → (q == h) ≡ b → 1 ≤ one_if b → Some h ≡ Some q
    by true at one = let same : h ≡ q = grind (arith, nat_tests) in ap Some same
    by false at one = absurd (omega arith)

-- ---- the handles of descriptors

-- under its number
pub handle_at : (table : List Slot) (i : ℕ) {slot : Slot} → slice_get table i ≡ Some slot
    → slice_get (handles table) i ≡ Some (handle_in slot)
unfolding handles
handle_at table i is = slice_get-map handle_in table i ∙ ap (option_map handle_in) is

pub handle_put : (table : List Slot) (i : ℕ) (slot : Slot)
    → handles (slice_set table i slot) ≡ slice_set (handles table) i (handle_in slot)
unfolding handles
handle_put table i slot = map-set handle_in table i slot

pub handle_pushed : (table : List Slot) (slot : Slot)
    → handles (table ++ slot ∷ []) ≡ handles table ++ handle_in slot ∷ []
unfolding handles
handle_pushed table slot = map-append handle_in table (slot ∷ [])

pub handles-cons : (slot : Slot) (table : List Slot) → handles (slot ∷ table) ≡ handle_in slot ∷ handles table
unfolding handles
handles-cons slot table = refl

-- ---- the descriptors that a call names

pub named_is : (os : List (Option ℕ)) (fds : List ℕ) (q : ℕ) → IsHandle (under os fds) q → IsHandle os q
named_is os [] q is = absurd (omega (arith, no_uses q, is))
named_is os (fd ∷ fds) q is =
    elim
    (one_of (uses (option_to_list (slice_get os fd)) q) _
    (uses-append (option_to_list (slice_get os fd)) (under os fds) q) is) [
      | inl here ↦ by (slice_get os fd) refl here
      | inr there ↦ named_is os fds q there
    ]
  where
    by : (o : Option (Option ℕ)) → slice_get os fd ≡ o → 1 ≤ uses (option_to_list o) q → 1 ≤ uses os q
    by None at some = absurd (omega (arith, no_uses q, some))
    by (Some o) at some = omega (arith, some, uses-cons o [] q, no_uses q, uses-at os fd o q at)

pub is_named : (os : List (Option ℕ)) (fd h : ℕ) (fds : List ℕ) → slice_get os fd ≡ Some (Some h)
    → IsHandle (under os (fd ∷ fds)) h
is_named os fd h fds is =
    let sum = uses-append (option_to_list (slice_get os fd)) (under os fds) h in
    let one = ap (λ o. uses (option_to_list o) h) is in
    omega (arith, sum, one, uses-cons (Some h) [] h, no_uses h, uses_itself h)

-- a handle of those after the first
pub also_named : (os : List (Option ℕ)) (fd : ℕ) (fds : List ℕ) (q : ℕ) → IsHandle (under os fds) q
    → IsHandle (under os (fd ∷ fds)) q
also_named os fd fds q is =
    let sum = uses-append (option_to_list (slice_get os fd)) (under os fds) q in omega (arith, sum, is)
