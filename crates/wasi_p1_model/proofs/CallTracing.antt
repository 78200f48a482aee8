-- What a call adds to the lookups, and the descriptors after it.
use Rattle.std.proofs.Common.{ℕ, ◌≡◌, ◌≤◌, inl, inr, List, [], ◌∷◌, Some, Ok, arith, slice_get, slice_set, sym, subst}
use Rattle.wasi_host.specs.Provenance.{HasProvenance, Only, OneOf, Nothing}
use Rattle.wasi_host.proofs.Tracing.{traced_none, traced_then, traced_given, traced_kept}
use Rattle.wasi_host.specs.declared.lookup.Lookup.{Lookup}
use Rattle.wasi_p1_types.specs.Numbering.{with_new}
use Rattle.wasi_fs.specs.Calls.{handle_of, GotOpened}
use Rattle.wasi_fs.specs.declared.descriptor.Descriptor.{Descriptor}
use Rattle.wasi_fs.specs.declared.descriptor.Descriptor.TheVariants as descriptors
use Rattle.wasi_p1_types.specs.Slots.{is_closed_slot, slot_of}
use Rattle.wasi_p1_model.specs.Owners.{handle_in, handles, uses, uses_in, HasHandle, IsHandle, under}
use Rattle.wasi_p1_types.specs.declared.slots.FileModes.{FileModes}
use Rattle.wasi_p1_types.specs.declared.slots.Slot.{Slot}
use Rattle.wasi_p1_types.specs.declared.slots.Slot.TheVariants.{Closed}
use Rattle.wasi_p1_model.proofs.Counting.{one_of, item_is, named_is, is_named, also_named}
use Rattle.wasi_p1_model.proofs.Owning.{uses-new, uses-closed}

-- what was opened stands under its number
pub traced_new : {Given : ℕ → Type 0} {old new : List Lookup} (table : List Slot) (modes : FileModes)
    (descriptor : Descriptor)
    → HasProvenance Given Nothing (GotOpened (Ok descriptor)) old new
    → HasProvenance Given (IsHandle (handles table))
    (IsHandle (handles (with_new is_closed_slot table (slot_of modes descriptor)))) old new
traced_new table modes descriptor traced = traced_kept _ _ (λ q some.
    let slot = slot_of modes descriptor in
    elim (one_of (uses (handles table) q) (uses_in (handle_in slot) q) (uses-new table slot q) some) [
      | inl was ↦ inl was
      | inr made ↦ inr (got_handle descriptor (item_is (handle_in slot) q made))
    ]) traced
  where
    got_handle : {q : ℕ} (descriptor : Descriptor) → handle_in (slot_of modes descriptor) ≡ Some q → q ≡ handle_of descriptor
    got_handle (descriptors.File f) is = cc
    got_handle (descriptors.Dir dir) is = cc

-- a call that opened nothing
pub traced_refused : {Given Kept Made : ℕ → Type 0} {old new : List Lookup} → ((q : ℕ) → Made q → ⊥)
    → HasProvenance Given Nothing Made old new
    → HasProvenance Given Kept Kept old new
traced_refused {Kept = Kept} none traced = traced_kept Kept Kept (λ q has. inl has) traced

-- one that begins from the descriptor that the call names
pub traced_at : {Kept Kept' : ℕ → Type 0} {old new : List Lookup} {h : ℕ} (table : List Slot) (fd : ℕ) (fds : List ℕ)
    → HasHandle table fd h → HasProvenance (Only h) Kept Kept' old new
    → HasProvenance (IsHandle (under (handles table) (fd ∷ fds))) Kept Kept' old new
traced_at {h = h} table fd fds has traced =
    let named = is_named (handles table) fd h fds has in
    traced_given _ (λ q same. subst (IsHandle (under (handles table) (fd ∷ fds))) (sym same) named) traced

-- one that begins from the directory that the call names
pub traced_from : {Kept Kept' : ℕ → Type 0} {h : ℕ} {old new : List Lookup} (table : List Slot) (fd : ℕ)
    → HasHandle table fd h → HasProvenance (Only h) Kept Kept' old new
    → HasProvenance (IsHandle (under (handles table) (fd ∷ []))) Kept Kept' old new
traced_from table fd has traced = traced_at table fd [] has traced

-- and opens nothing
pub traced_below : {h : ℕ} {old new : List Lookup} (table : List Slot) (fd : ℕ)
    → HasHandle table fd h → HasProvenance (Only h) Nothing Nothing old new
    → HasProvenance (IsHandle (under (handles table) (fd ∷ []))) (IsHandle (handles table)) (IsHandle (handles table)) old new
traced_below table fd has traced = traced_from table fd has (traced_refused (λ q none. none) traced)

-- one that begins from two directories, and opens nothing
pub traced_between : {h h' : ℕ} {old new : List Lookup} (table : List Slot) (fd fd' : ℕ)
    → HasHandle table fd h → HasHandle table fd' h'
    → HasProvenance (OneOf h h') Nothing Nothing old new
    → HasProvenance (IsHandle (under (handles table) (fd ∷ fd' ∷ []))) (IsHandle (handles table)) (IsHandle (handles table))
    old new
traced_between {h} {h'} table fd fd' has has' traced =
    let Names = IsHandle (under (handles table) (fd ∷ fd' ∷ [])) in
    let here = is_named (handles table) fd h (fd' ∷ []) has in
    let there = also_named (handles table) fd (fd' ∷ []) h'
    (is_named (handles table) fd' h' [] has') in
    traced_given _ (λ q among. elim among [
      | inl first ↦ subst Names (sym first) here
      | inr second ↦ subst Names (sym second) there
    ]) (traced_refused (λ q none. none) traced)

-- one that looks nothing up, after which no handle is used that wasn't
pub traced_less : {old new : List Lookup} (table table' : List Slot)
    → ((q : ℕ) → uses (handles table') q ≤ uses (handles table) q) → new ≡ old
    → HasProvenance Nothing (IsHandle (handles table)) (IsHandle (handles table')) old new
traced_less table table' less same =
    traced_none _ _ _ _ _ same (λ q some. let fewer = less q in omega (arith, some, fewer))

-- one that closes a number
pub traced_closed : {slot : Slot} {old new : List Lookup} (table : List Slot) (i : ℕ) → slice_get table i ≡ Some slot
    → new ≡ old
    → HasProvenance Nothing (IsHandle (handles table)) (IsHandle (handles (slice_set table i Closed))) old new
traced_closed table i is same = traced_less table (slice_set table i Closed)
    (λ q. let fewer = uses-closed table i q is in omega (arith, fewer)) same

-- one that adds none
pub traced_free : {Kept Kept' : ℕ → Type 0} {old new : List Lookup} (Given : ℕ → Type 0)
    → HasProvenance Nothing Kept Kept' old new → HasProvenance Given Kept Kept' old new
traced_free Given traced = traced_given Given (λ q none. absurd none) traced

-- the lookups of one call more, from the descriptors that it names
pub traced_on : {Given Kept' : ℕ → Type 0} {a b c : List Lookup} (mid : List Slot) (fds : List ℕ)
    → HasProvenance (IsHandle (under (handles mid) fds)) (IsHandle (handles mid)) Kept' b c
    → HasProvenance Given Given (IsHandle (handles mid)) a b
    → HasProvenance Given Given Kept' a c
traced_on mid fds step so = traced_then (λ h has. has) (λ h named. named_is (handles mid) fds h named) so step
