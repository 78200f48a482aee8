-- What a program has written of what is due, and what reading left.
use Rattle.std.proofs.Common.{ℕ, ◌+◌, ◌<◌, ◌≤◌, ◌≡◌, ◌≢◌, List, [], length, replicate, take}
use Rattle.std.proofs.Common.{refl, sym, ◌∙◌, arith}
use Rattle.std.proofs.lemmas.List.{drop_all, length-replicate, length-take, take-append-drop}
use Rattle.wasi_io.specs.Ends.{ReadFront, most_bytes}
use Rattle.wasi_io.specs.Endings.{Extent, all_of_it, front_of_it, left_unread, Leaves, OfOwed, IsStatus, Took, TookNone, Written, whole, in_part}

-- ---- reading

-- bytes that aren't too many leave nothing
pub none_unread : {bytes left rest : List ℕ} → bytes ≡ left → rest ≡ [] → length bytes ≤ most_bytes
    → rest ≡ left_unread left
unfolding left_unread
none_unread {left} whole-is none fits =
    let fits_left : length left ≤ most_bytes + 1 = rw (← whole-is) (omega arith) in
    none ∙ sym (drop_all (most_bytes + 1) left fits_left)

-- reading that ended took no more than it may
pub front_read : {rest : List ℕ} (left : List ℕ) → rest ≡ left_unread left → ReadFront left rest
unfolding left_unread
front_read left is = record {
  front = take (most_bytes + 1) left;
  whole = rw is (sym (take-append-drop (most_bytes + 1) left));
  short = omega (arith, length-take (most_bytes + 1) left);
}

-- there are more bytes than any number
pub some_longer : (n : ℕ) → (left : List ℕ) × (n < length left)
some_longer n = (replicate (n + 1) 0, omega (arith, length-replicate {A = ℕ} (n + 1) 0))

-- ---- writing

-- what was written under one status has no other, but that of a fault
pub no_other : {S Anything : Type 0} {fault due status : S} {modelled rose : Type 0} {taken now text : List ℕ} (other : S)
    → due ≢ other → fault ≢ other → Written fault modelled rose taken now text due status → status ≡ other → Anything
no_other other not_due not_fault (whole took) is = absurd (not_due is)
no_other other not_due not_fault (in_part failed took) is = absurd (not_fault is)

-- where its status is that of a fault of writing the sink has failed
pub write_failed : {S : Type 0} {fault due status : S} {modelled rose : Type 0} {taken now text : List ℕ}
    → due ≢ fault → Written fault modelled rose taken now text due status → status ≡ fault → rose
write_failed not_fault (whole took) is = absurd (not_fault is)
write_failed not_fault (in_part failed took) is = failed

-- by what a program's statuses say of what was written
module _ {S : Type 0} {fault due : S} (extent : S → Extent) (whole_extent : extent due ≡ all_of_it)
    (fault_extent : extent fault ≡ front_of_it) {modelled rose : Type 0} {taken now text : List ℕ} where
  -- what reading left of what was written
  pub leaves_unread : {status : S} {rest : List ℕ} (left : List ℕ) → rest ≡ left_unread left
      → Written fault modelled rose taken now text due status → Leaves (extent status) left rest
  leaves_unread left is (whole took) = rw whole_extent is
  leaves_unread left is (in_part failed took) = rw fault_extent is

  -- the sink doesn't have to be as it was
  pub may_take : {status : S} → Written fault modelled rose taken now text due status → TookNone (extent status) taken now
  may_take (whole took) = rw whole_extent tt
  may_take (in_part failed took) = rw fault_extent tt

  pub takes : {status : S} (IsText : List ℕ → Type 0) → modelled → IsText text
      → Written fault modelled rose taken now text due status → Took (extent status) IsText taken now
  takes IsText tells is (whole took) = rw whole_extent (record { text = text; is_text = is; took = took tells })
  takes IsText tells is (in_part failed took) = rw fault_extent (record { text = text; is_text = is; front = took tells })

  -- its status is due
  pub is_status : {status : S} → Written fault modelled rose taken now text due status → IsStatus (extent status) status due
  is_status (whole took) = rw whole_extent refl
  is_status (in_part failed took) = rw fault_extent tt

  -- what holds of what was due when it was written
  pub of_owed : {status : S} {D : Type 0} (IsOwed Holds : D → Type 0) (d : D) → IsOwed d → Holds d
      → Written fault modelled rose taken now text due status → OfOwed (extent status) IsOwed Holds
  of_owed IsOwed Holds d owed holds (whole took) = rw whole_extent ((d, owed, holds))
  of_owed IsOwed Holds d owed holds (in_part failed took) = rw fault_extent ((d, owed, holds))
