-- From what a call below a directory gives to what the call does.
use Rattle.std.proofs.Common.{◌≡◌, inl, inr, true, ℕ, List, Option, Some, None, Ok, Err, refl, ap, sym, ◌∙◌, subst, length}
use Rattle.std.specs.Prelude.{Bool, IsTrue}
use Rattle.wasi_fs.specs.Calls.{Refuses}
use Rattle.std.specs.FinSet.{contains}
use Rattle.wasi_host.specs.HostLaws.{HostModel, Handles, HasCause, Rose, FaultCount}
use Rattle.wasi_host.specs.declared.errors.ErrorCode.{ErrorCode}
use Rattle.wasi_host.specs.declared.errors.HostError.{HostError}
use Rattle.wasi_host.specs.declared.errors.HostError.TheVariants.{Code}
use Rattle.wasi_host.specs.declared.open_handle.OpenHandle.{OpenHandle}
use Rattle.wasi_host.specs.declared.lookup.Lookup.{Lookup}
use Rattle.wasi_resolve.specs.PathRequest.{PathRequest, PathReply, meant_by}
use Rattle.wasi_resolve.specs.Resolved.{Resolved}
use Rattle.wasi_guest.specs.declared.answer.Value.{Value}
use Rattle.wasi_guest.specs.declared.answer.Value.TheVariants.{Unit as Nothing}
use Rattle.wasi_guest.specs.declared.call.Call.{Call}
use Rattle.wasi_p1_types.specs.Asked.{Asked}
use Rattle.wasi_p1_types.specs.CallParts.{Refused, Follows, IsReplied}
use Rattle.wasi_p1_model.specs.CallTransition.{FollowsSpec, Kept}
use Rattle.wasi_p1_types.specs.Errnos.{errno_of, error_of}
use Rattle.wasi_p1_types.specs.Guest.{Guest, guest_slots, guest_of, guest_by}
use Rattle.wasi_p1_model.specs.Owners.{handles, Owned, SlotsOfCall}
use Rattle.wasi_p1_types.specs.Request.{Request, Reply, MayReply, Path}
use Rattle.wasi_p1_types.specs.CallResult.{CallResult, give, made_of_reply}
use Rattle.wasi_p1_types.specs.Front.{ask, done_if}
use Rattle.wasi_p1_model.specs.Calls.{front, may_run_out_of_memory}
use Rattle.wasi_p1_types.specs.Slots.{View}
use Rattle.wasi_p1_types.specs.Spending.{spends_nothing}
use Rattle.wasi_p1_types.specs.declared.error.P1Error.{P1Error}
use Rattle.wasi_p1_types.specs.declared.error.P1Error.TheVariants.{Errno, Memory}
use Rattle.wasi_p1_model.proofs.SpecEnds.{tail, with_nothing}
use Rattle.wasi_p1_model.proofs.GuestSlots.{guest_slots_stay}
use Rattle.wasi_p1_model.proofs.Staying.{all_stay}
use Rattle.wasi_p1_model.proofs.Resolving.{resolved_ok, resolved_err}
use Rattle.wasi_p1_model.proofs.Taking.{refused_at, wanted, unchanged, does_err, does_refused, does_ok, makes_err, makes_ok, Did}

-- what a directory doesn't permit is refused by the error number of its code
pub refused_by : (A B : Type 0) {H : Type 0} (own : Option ErrorCode) (e : HostError) (old new : H)
    → Refuses {A = A} own (Err e) old new
    → Refused {A = B} own (Err (error_of e)) old new
refused_by A B own e old new = by own
  where
    by : (o : Option ErrorCode) → Refuses {A = A} o (Err e) old new → Refused {A = B} o (Err (error_of e)) old new
    by None is = tt
    by (Some code) is =
        let same : e ≡ Code code = let r = is.0 in cc in (inl (ap (λ x. Err (error_of x)) same), is.1)

-- the live handles stand for what they stood for
abbrev pub KeepsHeld : Handles → HostModel → HostModel → Type 0
KeepsHeld live w v = (h : ℕ) → contains live h ≡ true → v.held h ≡ w.held h

pub same_view : {H : Type 0} {old new : View H} {before after : List ℕ} → new.host ≡ old.host → Kept old new before after
    → new ≡ record old { fuel = new.fuel }
same_view {old = old} {new = new} host kept =
    λ i. record (record old { fuel = new.fuel }) {
      host = host i;
      slots = kept.slots i;
      table_max = kept.table_max i;
      holdings = kept.holdings i;
    }

module _ {H : Type 0} {modelled : Bool} {model : H → HostModel} {faults : H → FaultCount} {lookups : H → List Lookup}
    {old new : View H} {before after : List ℕ} {call : Call} where
  -- nothing was asked
  not_permitted : (e : P1Error) (code : ErrorCode)
      → (Err (Errno (errno_of code)), new.fuel) ≡ front (guest_of model old before) call old.fuel
      → Refused {A = Value} (Some code) (Err e) old.host new.host → (e ≡ Memory → IsTrue (may_run_out_of_memory call))
      → Kept old new before after
      → FollowsSpec modelled model faults lookups old new before after call (Err e)
  not_permitted e code at (why, host) may kept =
      subst (λ v. FollowsSpec modelled model faults lookups old v before after call (Err e)) (sym (same_view host kept))
      (subst (λ m. FollowsSpec modelled model faults lookups old then before m call (Err e)) (sym kept.memory) (elim why [
        | inl is ↦
            subst (λ r. FollowsSpec modelled model faults lookups old then before before call r) (sym is) (refused_at refl at)
        | inr is ↦ subst (λ r. FollowsSpec modelled model faults lookups old then before before call r) (sym is)
            (wanted (may (cc)) at)
      ]))
    where
      then : View H
      then = record old { fuel = new.fuel }

  module _ {r : Request} {A : Type 0} {own : Option ErrorCode} (next : Reply r → CallResult A)
      (shown : Guest → A → Value × Guest)
      (at : tail own r next shown (guest_of model old before) new.fuel ≡ front (guest_of model old before) call old.fuel)
    where
      pub permitted_err : {e : P1Error} → Refused {A = A} own (Err e) old.host new.host
          → (own ≡ None → IsReplied r next (Err e)) → (e ≡ Memory → IsTrue (may_run_out_of_memory call))
          → IsTrue (spends_nothing call r) → Kept old new before after
          → (IsTrue modelled → own ≡ None
          → guest_slots (model new.host).held new.slots ≡ guest_slots (model old.host).held old.slots)
          → (IsTrue modelled → own ≡ None → Did model faults old new r next (Err e))
          → FollowsSpec modelled model faults lookups old new before after call (Err e)
      permitted_err {e} refuses replied may unused kept slots does = by own refl
        where
          by : (o : Option ErrorCode) → own ≡ o → FollowsSpec modelled model faults lookups old new before after call (Err e)
          by None none = does_err next shown (subst (λ o. tail o r next shown (guest_of model old before) new.fuel
              ≡ front (guest_of model old before) call old.fuel) none at) (replied none) may unused kept (λ modelled. slots modelled none)
              (λ modelled. does modelled none)
          by (Some code) some = not_permitted e code (subst (λ o. tail o r next shown (guest_of model old before) new.fuel
              ≡ front (guest_of model old before) call old.fuel) some at) (again (subst (λ o. Refused {A = A} o (Err e) old.host
              new.host) some refuses)) may kept
            where
              again : Refused {A = A} (Some code) (Err e) old.host new.host
                  → Refused {A = Value} (Some code) (Err e) old.host new.host
              again (inl is, host) = (inl (let same : e ≡ Errno (errno_of code) = cc in ap Err same), host)
              again (inr is, host) = (inr (let same : e ≡ Memory = cc in ap Err same), host)

      pub permitted_ok : {y : Value} {x x' : A} → Refused own (Ok x) old.host new.host → length after ≡ length before
          → SlotsOfCall old.slots new.slots before call
          → (own ≡ None → Follows r next (Ok x))
          → shown (guest_of model old before) x ≡ (y, guest_by (model old.host).held new after)
          → (IsTrue modelled → own ≡ None → Did model faults old new r next (Ok x')
          × (shown (guest_of model old before) x' ≡ (y, guest_of model new after)))
          → FollowsSpec modelled model faults lookups old new before after call (Ok y)
      permitted_ok {y} {x} {x'} refuses size slots follows shows does = by own refl
        where
          by : (o : Option ErrorCode) → own ≡ o → FollowsSpec modelled model faults lookups old new before after call (Ok y)
          by None none = does_ok next shown (subst (λ o. tail o r next shown (guest_of model old before) new.fuel
              ≡ front (guest_of model old before) call old.fuel) none at) size slots (follows none) shows
              (λ modelled. does modelled none)
          by (Some code) some = absurd (elim (subst (λ o. Refused o (Ok x) old.host new.host) some refuses).0 [
            | inl is ↦ (cc)
            | inr is ↦ (cc)
          ])

  -- ---- what is done, and answered by nothing

  module _ {live : Handles} {own : Option ErrorCode} {r : Request}
      (at : done_if own r (guest_of model old before) new.fuel ≡ front (guest_of model old before) call old.fuel)
      (owned : Owned live (handles old.slots)) where
    pub changed_err : IsTrue (spends_nothing call r) → Kept old new before after → (e : HostError) → Refuses {A = Unit {0}} own (Err e) old.host new.host
        → (error_of e ≡ Memory → IsTrue (may_run_out_of_memory call))
        → (IsTrue modelled → own ≡ None → KeepsHeld live (model old.host) (model new.host))
        → (IsTrue modelled → own ≡ None
        → Asked (Rose (faults old.host) (faults new.host)) (model old.host) (model new.host) r (Err (error_of e)))
        → FollowsSpec modelled model faults lookups old new before after call (Err (error_of e))
    changed_err unused kept e refuses may keeps asked = permitted_err (λ _. give tt) with_nothing at
        (refused_by (Unit {0}) (Unit {0}) own e old.host new.host refuses)
        (λ none. inl (e, refl)) may unused kept
        (λ modelled none. ap (guest_slots (model new.host).held) kept.slots
        ∙ guest_slots_stay old.slots owned (keeps modelled none))
        (λ modelled none. inl (asked modelled none))

    pub changed_ok : Kept old new before after → (reply : Reply r) → MayReply r reply → Refuses {A = Unit {0}} own (Ok tt) old.host new.host
        → (IsTrue modelled → own ≡ None → KeepsHeld live (model old.host) (model new.host))
        → (IsTrue modelled → own ≡ None
        → Asked (Rose (faults old.host) (faults new.host)) (model old.host) (model new.host) r (Ok reply))
        → FollowsSpec modelled model faults lookups old new before after call (Ok Nothing)
    changed_ok kept reply may refuses keeps asked = permitted_ok (λ _. give tt) with_nothing at {x = tt} {x' = tt}
        (by own refuses)
        (ap length kept.memory) (all_stay kept.slots) (λ none. (reply, may, refl)) (again (model old.host).held refl)
        (λ modelled none. (
          (reply, asked modelled none, refl),
          again (model new.host).held (guest_slots_stay old.slots owned (keeps modelled none)),
        ))
      where
        by : (o : Option ErrorCode) → Refuses {A = Unit {0}} o (Ok tt) old.host new.host
            → Refused {A = Unit {0}} o (Ok tt) old.host new.host
        by None is = tt
        by (Some code) is = absurd (let r = is.0 in cc)

        again : (stands : ℕ → OpenHandle) → guest_slots stands old.slots ≡ guest_slots (model old.host).held old.slots
            → ◌≡◌ {A = Value × Guest} (Nothing, guest_of model old before) (Nothing, guest_by stands new after)
        again stands same = λ i. (
          Nothing,
          record {
            slots = (sym same ∙ ap (guest_slots stands) (sym kept.slots)) i;
            table_max = sym kept.table_max i;
            memory = sym kept.memory i;
            holdings = sym kept.holdings i;
          },
        )

  -- ---- what is found at a path, where nothing has to be permitted

  module _ {B : Type 0} {live : Handles} {p : PathRequest} {A : Type 0} {shown : B → PathReply p}
      (next : PathReply p → CallResult A) (told_by : Guest → A → Value × Guest)
      (at : ask (Path p) (made_of_reply (Path p) next (told_by (guest_of model old before))) new.fuel
      ≡ front (guest_of model old before) call old.fuel)
      (owned : Owned live (handles old.slots)) where
    pub found_err : (e : HostError) → HasCause {A = B} (faults old.host) (faults new.host) (Err e)
        → IsTrue (may_run_out_of_memory call) → IsTrue (spends_nothing call (Path p)) → Kept old new before after
        → (IsTrue modelled → Resolved live (model old.host) (model new.host) (meant_by (model old.host).tree p) shown (Err e))
        → FollowsSpec modelled model faults lookups old new before after call (Err (error_of e))
    found_err e cause may unused kept resolves =
        makes_err next told_by at owned (inl (e, refl)) (λ _. may) unused kept (λ modelled. record {
          keeps = (resolves modelled).keeps;
          does = inl (resolved_err e (λ is. cause.io (ap Err is)) (resolves modelled));
        })

    module _ {b : B} (may : MayReply (Path p) (shown b))
        (resolves : IsTrue modelled
        → Resolved live (model old.host) (model new.host) (meant_by (model old.host).tree p) shown (Ok b)) where
      -- the specification refused what was found
      pub found_refused : {e : P1Error} → next (shown b) ≡ Err e → IsTrue (may_run_out_of_memory call) → Kept old new before after
          → FollowsSpec modelled model faults lookups old new before after call (Err e)
      found_refused is wants kept =
          does_refused next told_by at (shown b, may, is) (λ _. wants) kept
          (λ modelled. ap (guest_slots (model new.host).held) kept.slots
          ∙ guest_slots_stay old.slots owned (resolves modelled).keeps)
          (λ modelled. (shown b, resolved_ok (resolves modelled), is))

      pub found_ok : {y : Value} {x : A} → next (shown b) ≡ Ok x → length after ≡ length before
          → told_by (guest_of model old before) x ≡ (y, guest_by (model old.host).held new after)
          → new.slots ≡ old.slots
          → FollowsSpec modelled model faults lookups old new before after call (Ok y)
      found_ok is size shows same =
          makes_ok next told_by at owned size (shown b, may, is) shows same (λ modelled. record {
            keeps = (resolves modelled).keeps;
            does = (shown b, resolved_ok (resolves modelled), is);
          })

-- what is done by a path, where nothing else changed
module _ {H : Type 0} {modelled : Bool} {model : H → HostModel} {faults : H → FaultCount} {lookups : H → List Lookup}
    {old : View H} {host : H} {left : ℕ} {memory : List ℕ} {call : Call} {live : Handles} {own : Option ErrorCode}
    (p : PathRequest) {shown : Unit {0} → PathReply p}
    (at : done_if own (Path p) (guest_of model old memory) left ≡ front (guest_of model old memory) call old.fuel)
    (owned : Owned live (handles old.slots)) where
  pub done_err : (e : HostError) → HasCause {A = Unit {0}} (faults old.host) (faults host) (Err e)
      → Refuses {A = Unit {0}} own (Err e) old.host host → IsTrue (may_run_out_of_memory call)
      → IsTrue (spends_nothing call (Path p))
      → (IsTrue modelled → own ≡ None → Resolved {A = Unit {0}} live (model old.host) (model host)
      (meant_by (model old.host).tree p) shown (Err e))
      → FollowsSpec modelled model faults lookups old (record old { host = host; fuel = left }) memory memory call (Err (error_of e))
  done_err e cause refuses may unused resolves =
      changed_err at owned unused unchanged e refuses (λ _. may) (λ modelled none. (resolves modelled none).keeps)
      (λ modelled none. resolved_err e (λ is. cause.io (ap Err is)) (resolves modelled none))

  pub done_ok : MayReply (Path p) (shown tt) → Refuses {A = Unit {0}} own (Ok tt) old.host host
      → (IsTrue modelled → own ≡ None → Resolved {A = Unit {0}} live (model old.host) (model host)
      (meant_by (model old.host).tree p) shown (Ok tt))
      → FollowsSpec modelled model faults lookups old (record old { host = host; fuel = left }) memory memory call (Ok Nothing)
  done_ok may refuses resolves =
      changed_ok at owned unchanged (shown tt) may refuses (λ modelled none. (resolves modelled none).keeps)
      (λ modelled none. resolved_ok (resolves modelled none))
