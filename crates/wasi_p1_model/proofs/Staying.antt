-- Descriptors that stay under their numbers, with their handles.
use Rattle.std.proofs.Common.{ℕ, ◌≡◌, ◌≢◌, inl, inr, false, List, refl, ap, sym, ◌∙◌, subst, arith, slice_get, slice_set, Option, Some, None}
use Rattle.std.specs.Option.{option_map}
use Rattle.std.proofs.lemmas.Option.{slice_get-map, slice_get_within}
use Rattle.wasi_host.specs.Provenance.{Nothing}
use Rattle.wasi_streams.proofs.OneChanged.{set_cases, push_cases}
use Rattle.wasi_p1_types.specs.Numbering.{last_where, put_at, with_new}
use Rattle.wasi_p1_model.specs.Owners.{handle_in, handles, HasHandle, SlotsStay}
use Rattle.wasi_p1_types.specs.Slots.{is_closed_slot}
use Rattle.wasi_p1_types.specs.declared.slots.Slot.{Slot}
use Rattle.wasi_p1_types.specs.declared.slots.Slot.TheVariants as slots
use Rattle.wasi_p1_model.proofs.Counting.{handle_at, handle_put}
use Rattle.wasi_p1_model.proofs.Owning.{put_same, closed_at}

-- another number than the one that is set
pub set_other : {A : Type 0} (xs : List A) (i n : ℕ) (y : A) → n ≢ i → slice_get (slice_set xs i y) n ≡ slice_get xs n
set_other xs i n y other = elim (set_cases xs i n y) [ inl same ↦ same | inr new ↦ absurd (other new.0) ]

-- a descriptor that has a handle is in use
pub record HandleUsed (table : List Slot) (n h : ℕ) : Type 0 where
  pub slot : Slot
  pub at : slice_get table n ≡ Some slot
  pub in_use : is_closed_slot slot ≡ false
  pub has : handle_in slot ≡ Some h

used_by : (table : List Slot) (n h : ℕ) → HasHandle table n h → HandleUsed table n h
unfolding handles
used_by table n h has = by (slice_get table n) refl (sym (slice_get-map handle_in table n) ∙ has)
  where
    by : (o : Option Slot) → slice_get table n ≡ o → option_map handle_in o ≡ Some (Some h) → HandleUsed table n h
    by None at is = absurd (cc)
    by (Some slots.Closed) at is = absurd (cc)
    by (Some (slots.Stream s)) at is = absurd (cc)
    by (Some (slots.Directory d)) at is = record { slot = slots.Directory d; at = at; in_use = refl; has = cc }
    by (Some (slots.File f)) at is = record { slot = slots.File f; at = at; in_use = refl; has = cc }

-- ---- what a call does with them

module _ {Named Closed : ℕ → Type 0} {table table' : List Slot} where
  -- nothing
  pub all_stay : table' ≡ table → SlotsStay Named Closed table table'
  all_stay same = subst (SlotsStay Named Closed table) (sym same) (record {
    others = λ n slot at in_use other. at;
    handles = λ n h has stays. has;
  })

  -- one that it names is put back with its handle
  pub put_stays : {slot : Slot} (fd : ℕ) (slot' : Slot) → Named fd → slice_get table fd ≡ Some slot
      → handle_in slot' ≡ handle_in slot → table' ≡ slice_set table fd slot' → SlotsStay Named Closed table table'
  put_stays fd slot' named is same put = subst (SlotsStay Named Closed table) (sym put) (record {
    others = λ n slot at in_use other. set_other table fd n slot' (λ here. other (subst Named (sym here) named)) ∙ at;
    handles = λ n h has stays. ap (λ os. slice_get os n) (put_same table fd slot' is same) ∙ has;
  })

  -- one that it names is closed
  pub close_stays : (fd : ℕ) → Named fd → Closed fd → table' ≡ slice_set table fd slots.Closed
      → SlotsStay Named Closed table table'
  close_stays fd named shut put = subst (SlotsStay Named Closed table) (sym put) (record {
    others = λ n slot at in_use other.
        set_other table fd n slots.Closed (λ here. other (subst Named (sym here) named)) ∙ at;
    handles = λ n h has stays. ap (λ os. slice_get os n) (handle_put table fd slots.Closed)
        ∙ set_other (handles table) fd n None (λ here. stays (subst Closed (sym here) shut)) ∙ has;
  })

  -- where those in use stay, so do their handles
  used_stay : ((n : ℕ) (slot : Slot) → slice_get table n ≡ Some slot → is_closed_slot slot ≡ false
      → slice_get table' n ≡ Some slot) → SlotsStay Named Closed table table'
  used_stay stay = record {
    others = λ n slot at in_use other. stay n slot at in_use;
    handles = λ n h has stays.
        let used = used_by table n h has in
        handle_at table' n (stay n used.slot used.at used.in_use) ∙ ap Some used.has;
  }

  -- there is one more
  pub new_stays : (new : Slot) → table' ≡ with_new is_closed_slot table new → SlotsStay Named Closed table table'
  unfolding with_new
  new_stays new put = used_stay (λ n slot at in_use.
      ap (λ t. slice_get t n) put ∙ by n slot at in_use (last_where is_closed_slot table) refl)
    where
      by : (n : ℕ) (slot : Slot) → slice_get table n ≡ Some slot → is_closed_slot slot ≡ false → (o : Option ℕ)
          → last_where is_closed_slot table ≡ o → slice_get (put_at o new table) n ≡ Some slot
      by n slot at in_use (Some i) last = set_other table i n new (λ here.
          let shut : Some slot ≡ Some slots.Closed =
          sym at ∙ ap (slice_get table) here ∙ closed_at table i last in
          let same : slot ≡ slots.Closed = (cc) in
          absurd (let wrong = sym in_use ∙ ap is_closed_slot same in cc)) ∙ at
      by n slot at in_use None last = elim (push_cases table n new) [
        | inl same ↦ same ∙ at
        | inr past ↦ absurd (let within = slice_get_within table n slot at in let behind = past.0 in omega arith)
      ]

  -- none that is in use changes
  pub none_changes : SlotsStay Nothing Nothing table table' → SlotsStay Named Closed table table'
  none_changes stay = record {
    others = λ n slot at in_use other. stay.others n slot at in_use (λ none. none);
    handles = λ n h has stays. stay.handles n h has (λ none. none);
  }
