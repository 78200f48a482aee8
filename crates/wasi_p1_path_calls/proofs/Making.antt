-- What a call does that makes something at a path, and answers nothing but that it was done.
use Rattle.std.proofs.Common.{ℕ, ◌≡◌, inl, true, false, List, Option, Some, None, Ok, Err, refl, ap, sym, ◌∙◌, length}
use Rattle.std.specs.Prelude.{Bool, IsTrue}
use Rattle.wasi_guest.specs.declared.answer.Value.{Value}
use Rattle.wasi_guest.specs.declared.answer.Value.TheVariants.{Unit as Nothing}
use Rattle.wasi_guest.specs.declared.call.Call.{Call}
use Rattle.wasi_guest.specs.declared.errno.Errno.TheVariants.{Io}
use Rattle.wasi_host.specs.HostLaws.{HostModel, Handles, HasCause, Rose, FaultCount}
use Rattle.wasi_host.specs.declared.errors.ErrorCode.{ErrorCode}
use Rattle.wasi_host.specs.declared.errors.HostError.{HostError}
use Rattle.wasi_host.specs.declared.open_handle.OpenHandle.{OpenHandle}
use Rattle.wasi_host.specs.declared.lookup.Lookup.{Lookup}
use Rattle.wasi_resolve.specs.PathRequest.{PathRequest, PathReply, meant_by}
use Rattle.wasi_resolve.specs.Resolved.{Resolved}
use Rattle.wasi_p1_types.specs.CallParts.{Follows, IsReplied}
use Rattle.wasi_p1_model.specs.CallTransition.{FollowsSpec}
use Rattle.wasi_p1_types.specs.Errnos.{errno_of, error_of}
use Rattle.wasi_p1_types.specs.Front.{CallFront, ask, done_if, free, ◌>>=◌}
use Rattle.wasi_p1_types.specs.SpecParts.{permit}
use Rattle.wasi_p1_types.specs.Guest.{Guest, guest_by, guest_of, guest_slots}
use Rattle.wasi_p1_model.specs.Owners.{handles, Owned, SlotsOfCall}
use Rattle.wasi_p1_types.specs.Quotas.{counted_making, counted_makings}
use Rattle.wasi_p1_types.specs.Request.{MayReply, Path, Reply, Request}
use Rattle.wasi_p1_types.specs.CallResult.{CallResult, give, made_of_reply}
use Rattle.wasi_p1_model.specs.Calls.{front, may_run_out_of_memory}
use Rattle.wasi_p1_types.specs.Slots.{View}
use Rattle.wasi_p1_types.specs.Spending.{check_to_make, grows, makes, making, on_outcome}
use Rattle.wasi_p1_types.specs.GuestEnvModel.{GuestEnvModel}
use Rattle.wasi_p1_types.specs.declared.error.P1Error.{P1Error}
use Rattle.wasi_p1_types.specs.declared.error.P1Error.TheVariants.{Errno, Memory}
use Rattle.wasi_p1_model.proofs.Exiting.{made_err, made_ok}
use Rattle.wasi_p1_model.proofs.GuestSlots.{guest_slots_stay}
use Rattle.wasi_p1_model.proofs.Lengths.{made, made_permitted}
use Rattle.wasi_p1_model.proofs.Resolving.{resolved_err, resolved_ok}
use Rattle.wasi_p1_model.proofs.SpecEnds.{tail, with_nothing}
use Rattle.wasi_p1_model.proofs.Staying.{all_stay}
use Rattle.wasi_p1_model.proofs.Taking.{Did, GuestSlotsStay, refused_at}

-- what the check refused, the specification refuses
made_refused : {A : Type 0} {e : P1Error} {fuel : ℕ} (b : Bool) (own : Option ErrorCode) (r : Request)
    (next : Reply r → CallResult A) (shown : Guest → A → Value × Guest) (g : Guest) → check_to_make b own g.holdings ≡ Err e
    → making b g (tail own r next shown g) fuel ≡ (Err e, fuel)
made_refused {fuel = fuel} true None r next shown g is = rw is refl
made_refused false None r next shown g is = absurd (cc)
made_refused {e = e} {fuel = fuel} true (Some code) r next shown g is =
    let same : Errno (errno_of code) ≡ e = (cc) in ap (λ f. (Err f, fuel)) same
made_refused {e = e} {fuel = fuel} false (Some code) r next shown g is =
    let same : Errno (errno_of code) ≡ e = (cc) in ap (λ f. (Err f, fuel)) same

-- a making after what has to be permitted
permit_first : (fuel : ℕ) (b : Bool) (own : Option ErrorCode) (g : Guest) (call_spec : CallFront)
    → (free (permit own) >>= (λ _. making b g call_spec)) fuel ≡ making b g (free (permit own) >>= (λ _. call_spec)) fuel
permit_first fuel b None g call_spec = refl
permit_first fuel true (Some code) g call_spec = refl
permit_first fuel false (Some code) g call_spec = refl

-- an answer, with its making counted
pub made_is : (b : Bool) (p : Value × Guest)
    → made b p ≡ (p.0, record p.1 { holdings = counted_makings b p.1.holdings })
made_is true p = refl
made_is false p = refl

module _ {H : Type 0} {modelled : Bool} {model : H → HostModel} {faults : H → FaultCount} {lookups : H → List Lookup}
    {old : View H} {host : H} {stock : GuestEnvModel} {left : ℕ} {memory : List ℕ} {call : Call} {live : Handles}
    (own : Option ErrorCode) (p : PathRequest) {shown : Unit {0} → PathReply p}
    (at : making true (guest_of model old memory) (done_if own (Path p) (guest_of model old memory)) left
    ≡ front (guest_of model old memory) call old.fuel) (check : check_to_make true own old.holdings ≡ Ok tt)
    (is : true ≡ makes call) (owned : Owned live (handles old.slots)) where
  pub made_at_err : (e : HostError) → HasCause {A = Unit {0}} (faults old.host) (faults host) (Err e)
      → IsTrue (may_run_out_of_memory call)
      → (IsTrue modelled → own ≡ None → Resolved {A = Unit {0}} live (model old.host) (model host)
      (meant_by (model old.host).tree p) shown (Err e))
      → (error_of e ≡ Errno Io → Rose (faults old.host) (faults host))
      → stock ≡ on_outcome (let r : CallResult Value = Err (error_of e) in r) (counted_making old.holdings) old.holdings
      → FollowsSpec modelled model faults lookups old (record old { host = host; holdings = stock; fuel = left }) memory memory
      call (Err (error_of e))
  made_at_err e cause may resolves rises counted =
      let none = made_permitted true own old.holdings check in
      made_err own true (λ _. give tt) with_nothing at check is refl (inl (e, refl)) (λ _. may)
      (λ modelled. guest_slots_stay old.slots owned (resolves modelled none).keeps)
      (λ modelled. inl (resolved_err e (λ is. cause.io (ap Err is)) (resolves modelled none))) rises refl refl counted refl

  pub made_at_ok : MayReply (Path p) (shown tt)
      → (IsTrue modelled → own ≡ None → Resolved {A = Unit {0}} live (model old.host) (model host)
      (meant_by (model old.host).tree p) shown (Ok tt))
      → stock ≡ counted_making old.holdings
      → FollowsSpec modelled model faults lookups old (record old { host = host; holdings = stock; fuel = left }) memory memory
      call (Ok Nothing)
  made_at_ok may resolves counted =
      let none = made_permitted true own old.holdings check in
      made_ok own true (λ _. give tt) with_nothing at check {x = tt} {x' = tt} refl (all_stay refl) (shown tt, may, refl)
      (counts (model old.host).held refl) (λ modelled. (
        (shown tt, resolved_ok (resolves modelled none), refl),
        counts (model host).held (guest_slots_stay old.slots owned (resolves modelled none).keeps),
      ))
    where
      counts : (stands : ℕ → OpenHandle) → guest_slots stands old.slots ≡ guest_slots (model old.host).held old.slots
          → ◌≡◌ {A = Value × Guest}
          (Nothing, record (guest_of model old memory) { holdings = counted_making old.holdings })
          (Nothing, guest_by stands (record old { host = host; holdings = stock; fuel = left }) memory)
      counts stands same = λ i. (
        Nothing,
        record { slots = sym same i; table_max = old.table_max; memory = memory; holdings = sym counted i },
      )

-- what the check refused
pub making_refused : {H A : Type 0} {modelled : Bool} {model : H → HostModel} {faults : H → FaultCount} {lookups : H → List Lookup}
    {inside view : View H} {memory : List ℕ} {call : Call} {e : P1Error} {left : ℕ} (b : Bool) (own : Option ErrorCode)
    (r : Request) (next : Reply r → CallResult A) (shown : Guest → A → Value × Guest) → inside ≡ view
    → check_to_make b own inside.holdings ≡ Err e
    → making b (guest_of model inside memory) (tail own r next shown (guest_of model inside memory)) left
    ≡ front (guest_of model inside memory) call inside.fuel
    → FollowsSpec modelled model faults lookups view (record inside { fuel = left }) memory memory call (Err e)
making_refused {model = model} {inside = inside} {memory = memory} b own r next shown same check at =
    refused_at same (sym (made_refused b own r next shown (guest_of model inside memory) check) ∙ at)

-- of an open, which makes something only where it creates
module _ {H A : Type 0} {modelled : Bool} {model : H → HostModel} {faults : H → FaultCount} {lookups : H → List Lookup}
    {old new : View H} {before after : List ℕ} {call : Call} {r : Request} (own : Option ErrorCode) (b : Bool)
    (next : Reply r → CallResult A) (shown : Guest → A → Value × Guest)
    (at : (free (permit own) >>= (λ _. making b (guest_of model old before)
    (ask r (made_of_reply r next (shown (guest_of model old before)))))) new.fuel
    ≡ front (guest_of model old before) call old.fuel) (check : check_to_make b own old.holdings ≡ Ok tt) where
  pub opened_err : {e : P1Error} → b ≡ makes call → grows r ≡ false → IsReplied r next (Err e)
      → (e ≡ Memory → IsTrue (may_run_out_of_memory call)) → GuestSlotsStay modelled model old new
      → (IsTrue modelled → Did model faults old new r next (Err e))
      → (e ≡ Errno Io → Rose (faults old.host) (faults new.host))
      → new.slots ≡ old.slots → new.table_max ≡ old.table_max
      → new.holdings ≡ on_outcome (let r : CallResult Value = Err e in r) (counted_makings b old.holdings) old.holdings
      → after ≡ before → FollowsSpec modelled model faults lookups old new before after call (Err e)
  opened_err = made_err own b next shown (sym (permit_first new.fuel b own (guest_of model old before)
      (ask r (made_of_reply r next (shown (guest_of model old before))))) ∙ at) check

  pub opened_ok : {y : Value} {x x' : A} → length after ≡ length before → SlotsOfCall old.slots new.slots before call
      → Follows r next (Ok x)
      → made b (shown (guest_of model old before) x) ≡ (y, guest_by (model old.host).held new after)
      → (IsTrue modelled → Did model faults old new r next (Ok x')
      × (made b (shown (guest_of model old before) x') ≡ (y, guest_of model new after)))
      → FollowsSpec modelled model faults lookups old new before after call (Ok y)
  opened_ok = made_ok own b next shown (sym (permit_first new.fuel b own (guest_of model old before)
      (ask r (made_of_reply r next (shown (guest_of model old before))))) ∙ at) check

pub opening_refused : {H A : Type 0} {modelled : Bool} {model : H → HostModel} {faults : H → FaultCount} {lookups : H → List Lookup}
    {inside view : View H} {memory : List ℕ} {call : Call} {e : P1Error} {left : ℕ} (b : Bool) (own : Option ErrorCode)
    (r : Request) (next : Reply r → CallResult A) (shown : Guest → A → Value × Guest) → inside ≡ view
    → check_to_make b own inside.holdings ≡ Err e
    → (free (permit own) >>= (λ _. making b (guest_of model inside memory)
    (ask r (made_of_reply r next (shown (guest_of model inside memory)))))) left
    ≡ front (guest_of model inside memory) call inside.fuel
    → FollowsSpec modelled model faults lookups view (record inside { fuel = left }) memory memory call (Err e)
opening_refused {model = model} {inside = inside} {memory = memory} {left = left} b own r next shown same check at =
    making_refused b own r next shown same check (sym (permit_first left b own (guest_of model inside memory)
    (ask r (made_of_reply r next (shown (guest_of model inside memory))))) ∙ at)
