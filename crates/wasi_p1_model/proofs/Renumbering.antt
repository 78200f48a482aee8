-- A descriptor that takes another's number.
use Rattle.std.proofs.Common.{ℕ, zero, suc, ◌+◌, ◌<◌, ◌==◌, ◌≡◌, ◌≢◌, inl, inr, Bool, true, false, cond, List, [], ◌∷◌, map, length, get_or, slice_get, slice_set, Option, Some, None, refl, ap, sym, ◌∙◌, subst, arith}
use Rattle.std.specs.List.{swap}
use Rattle.std.proofs.lemmas.List.Edits.{swap_is}
use Rattle.std.proofs.Math.ListN.{get_or-map}
use Rattle.std.proofs.lemmas.List.{map-set, set-set, set-get_or}
use Rattle.std.proofs.lemmas.Option.{slice_get-get_or, get_or_from_slice_get, slice_get_within}
use Rattle.wasi_host.specs.Provenance.{HasProvenance, Nothing}
use Rattle.wasi_host.specs.HostLaws.{HostModel, Handles}
use Rattle.wasi_host.specs.declared.lookup.Lookup.{Lookup}
use Rattle.wasi_guest.specs.declared.answer.Value.{Value}
use Rattle.wasi_p1_types.specs.CallParts.{Rests, Stays}
use Rattle.wasi_p1_model.specs.DescriptorLaws.{FitsTable}
use Rattle.wasi_p1_types.specs.Guest.{Guest, GuestSlot, closed}
use Rattle.wasi_p1_types.specs.Numbering.{renumbered}
use Rattle.wasi_p1_model.specs.Calls.{renumbering}
use Rattle.wasi_p1_model.specs.Owners.{handle_in, handles, uses, uses_in, without, IsHandle, Owned, Owns, SlotsStay}
use Rattle.wasi_p1_types.specs.declared.slots.Slot.{Slot}
use Rattle.wasi_p1_types.specs.declared.slots.Slot.TheVariants as slots
use Rattle.wasi_p1_model.proofs.CallTracing.{traced_less}
use Rattle.wasi_p1_model.proofs.Changing.{IsOfOpen, IsUnder, IsAt, IsFileOf, under_open, at_open, file_open, in_set, set_fits}
use Rattle.wasi_p1_model.proofs.Counting.{handle_at, handle_put, uses-set}
use Rattle.wasi_p1_model.proofs.GuestSlots.{released_stays}
use Rattle.wasi_p1_model.proofs.LocalCalls.{StaysNear}
use Rattle.wasi_p1_model.proofs.Numbers.{other_number, same_number}
use Rattle.wasi_p1_model.proofs.Owning.{owns_less}
use Rattle.wasi_p1_model.proofs.Staying.{set_other}

-- ---- items by number

-- two numbers of a list, which aren't the same
pub record AreTwo {A : Type 0} (xs : List A) (i j : ℕ) : Type 0 where
  pub one : i < length xs
  pub other : j < length xs
  pub apart : i ≢ j

-- seen in another way
pub renumbered-map : {A B : Type 0} (f : A → B) (none : A) (xs : List A) (from to : ℕ)
    → map f (renumbered none xs from to) ≡ renumbered (f none) (map f xs) from to
unfolding renumbered
renumbered-map f none xs from to =
    map-set f (slice_set xs from none) to (get_or xs from none)
    ∙ ap (λ ys. slice_set ys to (f (get_or xs from none))) (map-set f xs from none)
    ∙ ap (slice_set (slice_set (map f xs) from (f none)) to) (sym (get_or-map f xs from none))

module _ {A : Type 0} (none : A) (xs : List A) where
  -- to its own number
  pub renumbered_itself : {from to : ℕ} → from ≡ to → renumbered none xs from to ≡ xs
  unfolding renumbered
  renumbered_itself {from} same = subst (λ n. renumbered none xs from n ≡ xs) same
      (set-set xs from none (get_or xs from none) ∙ set-get_or xs from none)

  -- under other numbers all stay
  pub renumbered_other : (from to n : ℕ) → n ≢ from → n ≢ to
      → slice_get (renumbered none xs from to) n ≡ slice_get xs n
  unfolding renumbered
  renumbered_other from to n apart apart' =
      set_other (slice_set xs from none) to n (get_or xs from none) apart' ∙ set_other xs from n none apart

-- ---- the handles

-- the descriptor, and what it drops
pub are_two : {table : List Slot} {from to : ℕ} {dropped : Slot} → from < length table
    → slice_get table to ≡ Some dropped → from ≢ to → AreTwo table from to
are_two {table} {from} {to} {dropped} within is apart =
    record { one = within; other = slice_get_within table to dropped is; apart = apart }

pub handles-renumbered : (table : List Slot) (from to : ℕ)
    → handles (renumbered slots.Closed table from to) ≡ renumbered None (handles table) from to
unfolding handles
handles-renumbered table from to = renumbered-map handle_in slots.Closed table from to

-- that of what stood under the number is used once less
uses-moved : {own was : Option ℕ} (os : List (Option ℕ)) (from to q : ℕ) → from ≢ to → slice_get os from ≡ Some own
    → slice_get os to ≡ Some was → uses (renumbered None os from to) q + uses_in was q ≡ uses os q
unfolding renumbered
uses-moved {own} {was} os from to q apart here there =
    let less = uses-set os from None own q here in
    let still = set_other os from to None (λ same. apart (sym same)) ∙ there in
    let put = uses-set (slice_set os from None) to own was q still in
    let now = ap (λ o. uses (slice_set (slice_set os from None) to o) q) (get_or_from_slice_get os from own None here) in
    omega (arith, less, put, now)

pub uses-renumbered : {dropped : Slot} {from to : ℕ} (table : List Slot) (q : ℕ) → AreTwo table from to
    → slice_get table to ≡ Some dropped
    → uses (handles (renumbered slots.Closed table from to)) q + uses_in (handle_in dropped) q ≡ uses (handles table) q
uses-renumbered {from = from} {to = to} table q two is =
    let here = handle_at table from (slice_get-get_or table from slots.Closed two.one) in
    let moved = uses-moved (handles table) from to q two.apart here (handle_at table to is) in
    let now = ap (λ os. uses os q) (handles-renumbered table from to) in
    omega (arith, moved, now)

-- two that take each other's number have their handles
uses-swapped : (table : List Slot) (i j q : ℕ) → AreTwo table i j → uses (handles (swap table i j)) q ≡ uses (handles table) q
uses-swapped table i j q two =
    let own = get_or table i slots.Closed in
    let theirs = get_or table j slots.Closed in
    let here = handle_at table i (slice_get-get_or table i slots.Closed two.one) in
    let there = handle_at table j (slice_get-get_or table j slots.Closed two.other) in
    let first = uses-set (handles table) i (handle_in theirs) (handle_in own) q here in
    let still = set_other (handles table) i j (handle_in theirs) (λ same. two.apart (sym same)) ∙ there in
    let second = uses-set (slice_set (handles table) i (handle_in theirs)) j (handle_in own) (handle_in theirs) q still in
    let put = ap (λ os. uses os q) (handle_put (slice_set table i theirs) j own
    ∙ ap (λ os. slice_set os j (handle_in own)) (handle_put table i theirs)) in
    let swapped = ap (λ xs. uses (handles xs) q) (swap_is table i j slots.Closed two.one two.other) in
    omega (arith, first, second, put, swapped)

pub owned_swapped : {live : Handles} {table : List Slot} {i j : ℕ} → AreTwo table i j → Owned live (handles table)
    → Owned live (handles (swap table i j))
owned_swapped {table = table} {i = i} {j = j} two owned = record {
  once = λ q. let same = uses-swapped table i j q two in
      let once = owned.once q in omega (arith, same, once);
}

pub owns_renumbered : {live live' : Handles} {dropped : Slot} {from to : ℕ} (table : List Slot) → AreTwo table from to
    → slice_get table to ≡ Some dropped → live' ≡ without live (handle_in dropped) → Owned live (handles table)
    → Owns live live' (handles table) (handles (renumbered slots.Closed table from to))
owns_renumbered {dropped = dropped} table two is gone owned =
    owns_less (handle_in dropped) gone (λ q. uses-renumbered table q two is) owned

pub traced_renumbered : {dropped : Slot} {from to : ℕ} {old new : List Lookup} (table : List Slot)
    → AreTwo table from to → slice_get table to ≡ Some dropped → new ≡ old
    → HasProvenance Nothing (IsHandle (handles table)) (IsHandle (handles (renumbered slots.Closed table from to))) old new
traced_renumbered {from = from} {to = to} table two is same =
    traced_less table (renumbered slots.Closed table from to)
    (λ q. let fewer = uses-renumbered table q two is in omega (arith, fewer)) same

-- ---- what the descriptors stand for

-- handles that are still live stand for the same
pub renumbered_stays : {live live' : Handles} {w v : HostModel} {dropped : Slot} {from to : ℕ} (table : List Slot)
    → AreTwo table from to → slice_get table to ≡ Some dropped → live' ≡ without live (handle_in dropped)
    → Owned live (handles table) → Rests live live' w v → Stays w v (renumbered slots.Closed table from to)
renumbered_stays {dropped = dropped} {from = from} {to = to} table two is gone owned rests =
    released_stays (handle_in dropped) (renumbered slots.Closed table from to) gone
    (owns_renumbered table two is gone owned).owned rests

-- both numbers are named, and their handles no longer theirs; the other descriptors stay
pub renumber_stays : {Named Closed : ℕ → Type 0} {table table' : List Slot} (from to : ℕ) → Named from → Named to
    → Closed from → Closed to → table' ≡ renumbered slots.Closed table from to → SlotsStay Named Closed table table'
renumber_stays {Named} {Closed} {table} from to named named' shut shut' put =
    subst (SlotsStay Named Closed table) (sym put) (record {
      others = λ n slot at in_use other.
          renumbered_other slots.Closed table from to n (apart Named named other) (apart Named named' other) ∙ at;
      handles = λ n h has stays. ap (λ os. slice_get os n) (handles-renumbered table from to)
          ∙ renumbered_other None (handles table) from to n (apart Closed shut stays) (apart Closed shut' stays) ∙ has;
    })
  where
    apart : (P : ℕ → Type 0) {n fd : ℕ} → P fd → (P n → ⊥) → n ≢ fd
    apart P has other same = other (subst P (sym same) has)

-- ---- what a number stands for

module _ (Is : Option GuestSlot → Type 0) (live : IsOfOpen Is) where
  -- a number under which nothing stands is as a closed one
  own_there : (slots : List GuestSlot) (i : ℕ) → Is (Some (get_or slots i closed)) → Is (slice_get slots i)
  own_there [] i is = absurd (live.closed is)
  own_there (x ∷ xs) zero is = is
  own_there (x ∷ xs) (suc i) is = own_there xs i is

  set_there : (slots : List GuestSlot) (i : ℕ) (slot : GuestSlot) → Is (slice_get (slice_set slots i slot) i)
      → Is (Some slot)
  set_there [] i slot is = absurd (live.missing is)
  set_there (x ∷ xs) zero slot is = is
  set_there (x ∷ xs) (suc i) slot is = set_there xs i slot is

  -- each is what it was, and under the number that was taken is the descriptor that took it
  pub renumbered_is : (slots : List GuestSlot) (from to n : ℕ) → Is (slice_get (renumbered closed slots from to) n)
      → Is (slice_get slots (cond (n == to) from n))
  unfolding renumbered
  renumbered_is slots from to n is = by (n == to) refl
    where
      others : List GuestSlot
      others = slice_set slots from closed

      own : GuestSlot
      own = get_or slots from closed

      by : (b : Bool) → (n == to) ≡ b → Is (slice_get slots (cond b from n))
      by true at = own_there slots from (set_there others to own
          (subst (λ k. Is (slice_get (slice_set others to own) k)) (same_number n to at) is))
      by false at = elim (in_set Is others to n own is) [
        | inl was ↦ elim (in_set Is slots from n closed was) [
          | inl old ↦ old
          | inr (_, none) ↦ absurd (live.closed none)
        ]
        | inr (same, _) ↦ absurd (other_number n to at same)
      ]

renumbered_fits : (g : Guest) (from to most : ℕ) → FitsTable most g
    → FitsTable most (record g { slots = renumbered closed g.slots from to })
unfolding renumbered
renumbered_fits g from to most fits =
    set_fits (record g { slots = slice_set g.slots from closed }) to _ most (set_fits g from closed most fits)

-- what the specification of a renumbering does to them
pub put_renumbered : {x : Value} (g : Guest) (from to : ℕ)
    → StaysNear g (renumbering from to) [] (x, record g { slots = renumbered closed g.slots from to })
put_renumbered g from to = record {
  nodes = λ k n has. inl (renumbered_is (IsAt n) at_open g.slots from to k has);
  perms = λ k perms has. renumbered_is (IsUnder perms) under_open g.slots from to k has;
  appends = λ all k f has. all _ f (renumbered_is (IsFileOf f) file_open g.slots from to k has);
  fits = renumbered_fits g from to;
}
