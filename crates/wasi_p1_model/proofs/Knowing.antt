-- From a part that asks the host only where something isn't known, to what the call does.
use Rattle.std.proofs.Common.{ℕ, ◌≡◌, true, List, Option, Some, None, Ok, Err, refl, sym, subst, length, slice_get}
use Rattle.std.specs.Prelude.{Bool, IsTrue, Contains}
use Rattle.std.specs.FinSet.{contains}
use Rattle.wasi_guest.specs.declared.answer.Value.{Value}
use Rattle.wasi_guest.specs.declared.call.Call.{Call}
use Rattle.wasi_host.specs.HostLaws.{HostModel, Handles, FaultCount}
use Rattle.wasi_host.specs.declared.lookup.Lookup.{Lookup}
use Rattle.wasi_p1_types.specs.CallParts.{Follows, IsReplied, Knows}
use Rattle.wasi_p1_model.specs.CallTransition.{FollowsSpec, Kept}
use Rattle.wasi_p1_types.specs.Front.{answer, known_or_asked, onward}
use Rattle.wasi_p1_types.specs.Guest.{Guest, guest_of}
use Rattle.wasi_p1_model.specs.Owners.{handles, Owned}
use Rattle.wasi_p1_types.specs.Request.{Request, Reply}
use Rattle.wasi_p1_types.specs.CallResult.{CallResult, Program, done}
use Rattle.wasi_p1_model.specs.Calls.{front, descriptors_named, may_run_out_of_memory}
use Rattle.wasi_p1_types.specs.Slots.{View}
use Rattle.wasi_p1_types.specs.Spending.{spends_nothing}
use Rattle.wasi_p1_types.specs.declared.slots.FileSlot.{FileSlot}
use Rattle.wasi_p1_types.specs.declared.slots.Slot.TheVariants.{File}
use Rattle.wasi_p1_types.specs.declared.error.P1Error.{P1Error}
use Rattle.wasi_p1_types.specs.declared.error.P1Error.TheVariants.{Memory}
use Rattle.wasi_p1_model.proofs.Below.{same_view}
use Rattle.wasi_p1_model.proofs.Taking.{refused_at, makes_err, put_answered, put_ok, guest_put, Made, PutBack}

-- the end of a specification, of what is made of what is known
abbrev known_end : {A : Type 0} → ℕ → (A → Value × Guest) → CallResult A → CallResult (Program (Value × Guest)) × ℕ
known_end fuel shown m = onward m fuel (λ x. answer (shown x))

module _ {H : Type 0} {modelled : Bool} {model : H → HostModel} {faults : H → FaultCount} {lookups : H → List Lookup}
    {old new : View H} {before after : List ℕ} {call : Call} {A B : Type 0} {r : Request} {base : Option B}
    (part : B → CallResult A) (next : Reply r → CallResult A) (shown : Guest → A → Value × Guest)
    (at : known_or_asked base part r next (shown (guest_of model old before)) new.fuel
    ≡ front (guest_of model old before) call old.fuel)
    {live : Handles} (owned : Owned live (handles old.slots)) where
  pub known_err : {e : P1Error} → Knows base part (Err e) old.host new.host → (base ≡ None → IsReplied r next (Err e))
      → (e ≡ Memory → IsTrue (may_run_out_of_memory call)) → IsTrue (spends_nothing call r) → Kept old new before after
      → (IsTrue modelled → base ≡ None → Made model faults old new live r next (Err e))
      → FollowsSpec modelled model faults lookups old new before after call (Err e)
  known_err {e} knows replied wants unused kept makes = by base refl at knows
    where
      then : View H
      then = record old { fuel = new.fuel }

      by : (o : Option B) → base ≡ o
          → known_or_asked o part r next (shown (guest_of model old before)) new.fuel
          ≡ front (guest_of model old before) call old.fuel
          → Knows o part (Err e) old.host new.host
          → FollowsSpec modelled model faults lookups old new before after call (Err e)
      by None none at knows = makes_err next shown at owned (replied none) wants unused kept (λ modelled. makes modelled none)
      by (Some b) some at (is, host) =
          subst (λ v. FollowsSpec modelled model faults lookups old v before after call (Err e)) (sym (same_view host kept))
          (subst (λ m. FollowsSpec modelled model faults lookups old then before m call (Err e)) (sym kept.memory)
          (refused_at refl (subst (λ m. known_end new.fuel (shown (guest_of model old before)) m
          ≡ front (guest_of model old before) call old.fuel) (sym is) at)))

  -- and a file's descriptor was put back
  pub known_put : {y : Value} {x : A} {fd : ℕ} {f was : FileSlot} → Knows base part (Ok x) old.host new.host
      → (base ≡ None → Follows r next (Ok x)) → length after ≡ length before
      → shown (guest_of model old before) x ≡ (y, guest_put (model old.host).held old fd f after)
      → PutBack old new fd f → Contains (descriptors_named before call) fd
      → slice_get old.slots fd ≡ Some (File was) → f.file ≡ was.file → contains live f.file.file ≡ true
      → (IsTrue modelled → base ≡ None → Made model faults old new live r next (Ok x))
      → FollowsSpec modelled model faults lookups old new before after call (Ok y)
  known_put {y} {x} knows follows size shows put named is same stands makes = by base refl at knows
    where
      by : (o : Option B) → base ≡ o
          → known_or_asked o part r next (shown (guest_of model old before)) new.fuel
          ≡ front (guest_of model old before) call old.fuel
          → Knows o part (Ok x) old.host new.host
          → FollowsSpec modelled model faults lookups old new before after call (Ok y)
      by None none at knows =
          put_ok next shown at owned size (follows none) shows put named is same stands (λ modelled. makes modelled none)
      by (Some b) some at (gives, host) =
          let known = subst (λ m. known_end new.fuel (shown (guest_of model old before)) m
          ≡ front (guest_of model old before) call old.fuel) (sym gives) at in
          put_answered (subst (λ (p : Value × Guest). ◌≡◌ {A = CallResult (Program (Value × Guest)) × ℕ} (Ok (done p), new.fuel)
          (front (guest_of model old before) call old.fuel)) shows known) size put named is same host
