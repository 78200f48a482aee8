-- From what the parts of a call give to what the call does.
use Rattle.std.proofs.Common.{Result, ℕ, true, slice_get, slice_set, List, Some, ◌≡◌, inl, inr, refl, ap, sym, ◌∙◌, subst, Bool, Ok, Err, length}
use Rattle.std.specs.Prelude.{IsTrue, IsErrAnd, Contains}
use Rattle.std.proofs.lemmas.Result.{err_from_is_err_and}
use Rattle.wasi_host.specs.Steps.{◌>>=◌}
use Rattle.std.specs.FinSet.{contains}
use Rattle.wasi_host.specs.HostLaws.{HostModel, Handles, Rose, FaultCount}
use Rattle.wasi_host.specs.declared.open_handle.OpenHandle.{OpenHandle}
use Rattle.wasi_host.specs.declared.lookup.Lookup.{Lookup}
use Rattle.wasi_p1_types.specs.Slots.{View}
use Rattle.wasi_p1_types.specs.Guest.{Guest, guest_slots, guest_of, guest_by, state_of}
use Rattle.wasi_p1_types.specs.Request.{Request, Reply}
use Rattle.wasi_p1_types.specs.CallResult.{CallResult, Program, give, done, asking, made_of_reply}
use Rattle.wasi_p1_types.specs.Front.{with_fuel, ask}
use Rattle.wasi_p1_types.specs.SpecParts.{with_file}
use Rattle.wasi_p1_model.specs.Calls.{front, call_spec, fuel_left, descriptors_named, may_run_out_of_memory}
use Rattle.wasi_p1_model.specs.Owners.{handles, Owned, SlotsOfCall}
use Rattle.wasi_p1_types.specs.CallParts.{Follows, IsReplied, Makes, WantsNoMemory, Stays, open_file_of}
use Rattle.wasi_p1_types.specs.Asked.{Answered, Does}
use Rattle.wasi_p1_types.specs.Spending.{spends_nothing}
use Rattle.wasi_p1_model.specs.Transition.{used_by}
use Rattle.wasi_p1_model.specs.CallTransition.{FollowsSpec, Kept, KeptBut, Same, Quiet, AtFront, Transitions}
use Rattle.wasi_guest.specs.declared.call.Call.{Call}
use Rattle.wasi_p1_types.specs.declared.error.P1Error.{P1Error}
use Rattle.wasi_guest.specs.declared.answer.Value.{Value}
use Rattle.wasi_fs.specs.declared.descriptor.File.{File as OpenedFile}
use Rattle.wasi_p1_types.specs.declared.slots.FileSlot.{FileSlot}
use Rattle.wasi_p1_types.specs.declared.slots.Slot.TheVariants.{File}
use Rattle.wasi_guest.specs.declared.errno.Errno.{Errno as ErrorNumber}
use Rattle.wasi_p1_types.specs.declared.error.P1Error.TheVariants.{Errno, Memory}
use Rattle.wasi_host.specs.declared.errors.HostError.TheVariants.{Memory as NoMemory}
use Rattle.wasi_p1_model.proofs.LocalCalls.{IsLocal}
use Rattle.wasi_p1_model.proofs.Locality.{spec_near}
use Rattle.wasi_p1_types.proofs.Wanting.{wants_none}
use Rattle.wasi_p1_model.proofs.TouchingNear.{turn_touches_near}
use Rattle.wasi_p1_model.proofs.Permitting.{turn_permits}
use Rattle.wasi_p1_model.proofs.GuestSlots.{guest_slots_stay, put_file_at}
use Rattle.wasi_p1_model.proofs.Staying.{all_stay, put_stays}
use Rattle.wasi_p1_model.proofs.Turns as turns
use Rattle.wasi_p1_model.proofs.Turns.{Settled}
use Rattle.wasi_p1_model.proofs.Uses.{no_use}

-- why a call isn't answered Ok
reason : {e f : P1Error} → (let r : Result Value P1Error = Err e in r) ≡ Err f → e ≡ f
reason is = cc

never_ok : {x : Value} → (let r : Result Value P1Error = Ok x in r) ≡ Err Memory → ⊥
never_ok is = absurd (cc)

-- a specification, and the fuel that is left at its end
pub spec_same : {p q : CallResult (Program (Value × Guest)) × ℕ} → p ≡ q → p.0 ≡ q.0
spec_same at = ap (λ (p : CallResult (Program (Value × Guest)) × ℕ). p.0) at

left_same : {p q : CallResult (Program (Value × Guest)) × ℕ} → p ≡ q → p.1 ≡ q.1
left_same at = ap (λ (p : CallResult (Program (Value × Guest)) × ℕ). p.1) at

-- a refusal before the host, which took this much of the fuel
pub refused_at : {H : Type 0} {modelled : Bool} {model : H → HostModel} {faults : H → FaultCount} {lookups : H → List Lookup}
    {inside view : View H} {memory : List ℕ} {call : Call} {e : P1Error} {left : ℕ}
    → inside ≡ view → (Err e, left) ≡ front (guest_of model inside memory) call inside.fuel
    → FollowsSpec modelled model faults lookups view (record inside { fuel = left }) memory memory call (Err e)
refused_at {H} {modelled} {model} {faults} {lookups} {inside} {view} {memory} {call} {e} {left} same at =
    subst (λ v. FollowsSpec modelled model faults lookups v (record inside { fuel = left }) memory memory call (Err e)) same
    (record {
      size = refl;
      kept = record { slots = refl; table_max = refl; uses = inl refl; memory = refl };
      wants = λ want. absurd (never (reason want));
      slots = all_stay refl;
      fuel = left_same at;
      front = subst (AtFront (Same inside new memory memory) (Quiet faults lookups inside new) g (Err e)) is
          (inl refl, (refl, refl));
      turn = λ modelled. turns.refused is;
      permits = λ modelled names. refl;
      near = λ modelled. turn_touches_near (turns.refused {rose = Unit {0}} is);
    })
  where
    g : Guest
    g = guest_of model inside memory

    new : View H
    new = record inside { fuel = left }

    is : Err e ≡ call_spec g (with_fuel inside.fuel call)
    is = spec_same at

    never : WantsNoMemory e
    never = wants_none e (subst (IsLocal g call) (sym is) (spec_near g (with_fuel inside.fuel call)))

-- one before any fuel was taken
pub refused : {H : Type 0} {modelled : Bool} {model : H → HostModel} {faults : H → FaultCount} {lookups : H → List Lookup}
    {inside view : View H} {memory : List ℕ} {call : Call} {e : P1Error}
    → inside ≡ view → (Err e, inside.fuel) ≡ front (guest_of model inside memory) call inside.fuel
    → FollowsSpec modelled model faults lookups view view memory memory call (Err e)
refused {modelled = modelled} {model = model} {faults = faults} {lookups = lookups} {inside = inside} {view = view}
    {memory = memory} {call = call} {e = e} same at =
    subst (λ v. FollowsSpec modelled model faults lookups view v memory memory call (Err e)) same (refused_at same at)

pub ruleset refusals = (refused, refused_at)

-- what is the guest's own stays, where nothing changed but the host and the fuel
pub unchanged : {H : Type 0} {view : View H} {memory : List ℕ} {host : H} {fuel : ℕ}
    → Kept view (record view { host = host; fuel = fuel }) memory memory
unchanged = record { slots = refl; table_max = refl; holdings = refl; memory = refl }

-- a refusal by its error, as the exit of a `?` gives it
pub on_err : {H : Type 0} {modelled : Bool} {model : H → HostModel} {faults : H → FaultCount} {lookups : H → List Lookup}
    {old new : View H} {before after : List ℕ} {call : Call} {e : P1Error} {result : Result Value P1Error}
    → IsErrAnd result (λ f. f ≡ e) → FollowsSpec modelled model faults lookups old new before after call (Err e)
    → FollowsSpec modelled model faults lookups old new before after call result
on_err {result = result} is follows = let error = err_from_is_err_and result is in rw (error.1, error.2) follows

-- memory ran out before anything was asked, where the specification's front gives this
wanted_by : {H : Type 0} {modelled : Bool} {model : H → HostModel} {faults : H → FaultCount} {lookups : H → List Lookup}
    {view : View H} {memory : List ℕ} {call : Call} {left : ℕ} (m : CallResult (Program (Value × Guest))) → IsTrue (may_run_out_of_memory call)
    → (m, left) ≡ front (guest_of model view memory) call view.fuel
    → (let new : View H = record view { fuel = left } in
    AtFront (Same view new memory memory) (Quiet faults lookups view new) (guest_of model view memory) (Err Memory) m)
    → FollowsSpec modelled model faults lookups view (record view { fuel = left }) memory memory call (Err Memory)
wanted_by {H} {modelled} {model} {faults} {lookups} {view} {memory} {call} {left} m may at wants = record {
  size = refl;
  kept = record { slots = refl; table_max = refl; uses = inl refl; memory = refl };
  wants = λ _. may;
  slots = all_stay refl;
  fuel = left_same at;
  front = subst (AtFront (Same view new memory memory) (Quiet faults lookups view new) (guest_of model view memory)
      (Err Memory)) (spec_same at) wants;
  turn = λ modelled. turns.wants_memory;
  permits = λ modelled names. refl;
  near = λ modelled. turn_touches_near (turns.wants_memory {rose = Unit {0}} {call = with_fuel view.fuel call});
}
  where
    new : View H
    new = record view { fuel = left }

-- in place of an error number
pub wanted : {H : Type 0} {modelled : Bool} {model : H → HostModel} {faults : H → FaultCount} {lookups : H → List Lookup}
    {view : View H} {memory : List ℕ} {call : Call} {number : ErrorNumber} {left : ℕ} → IsTrue (may_run_out_of_memory call)
    → (Err (Errno number), left) ≡ front (guest_of model view memory) call view.fuel
    → FollowsSpec modelled model faults lookups view (record view { fuel = left }) memory memory call (Err Memory)
wanted {number = number} may at = wanted_by (Err (Errno number)) may at (inr (refl, refl), (refl, refl))

-- where no refusal is left
pub wanted_late : {H : Type 0} {modelled : Bool} {model : H → HostModel} {faults : H → FaultCount} {lookups : H → List Lookup}
    {view : View H} {memory : List ℕ} {call : Call} {left : ℕ} (program : Program (Value × Guest)) → IsTrue (may_run_out_of_memory call)
    → (Ok program, left) ≡ front (guest_of model view memory) call view.fuel
    → FollowsSpec modelled model faults lookups view (record view { fuel = left }) memory memory call (Err Memory)
wanted_late (done p) may at = wanted_by (Ok (done p)) may at (refl, (refl, refl))
wanted_late (asking r next) may at = wanted_by (Ok (asking r next)) may at (inl (NoMemory, refl))

-- the guest's slots stay: for a modelled host, where the handles stand for the same afterwards
abbrev pub GuestSlotsStay : {H : Type 0} → Bool → (H → HostModel) → View H → View H → Type 0
GuestSlotsStay modelled model old new =
    IsTrue modelled → guest_slots (model new.host).held new.slots ≡ guest_slots (model old.host).held old.slots

-- the guest after a call, by what the handles stood for before it
abbrev guest_then : {H : Type 0} → (H → HostModel) → View H → View H → List ℕ → Guest
guest_then model old new after = guest_by (model old.host).held new after

-- a call that isn't answered counts no more than its use
pub kept_but : {H : Type 0} {old new : View H} {before after : List ℕ} {call : Call} {e : P1Error}
    → Kept old new before after → KeptBut call e old new before after
kept_but kept = record {
  slots = kept.slots;
  table_max = kept.table_max;
  uses = inl kept.holdings;
  memory = kept.memory;
}

-- and the guest is settled so, over a modelled host
abbrev pub SettledAt : {H : Type 0} → (H → HostModel) → (H → FaultCount) → View H → View H → List ℕ → List ℕ → Call → P1Error
    → Type 0
SettledAt model faults old new before after call e =
    Settled (Rose (faults old.host) (faults new.host)) (state_of model old before) (state_of model new after)
    (used_by (state_of model old before) (with_fuel old.fuel call)) e

pub same_guest : {H : Type 0} {old new : View H} {before after : List ℕ} (model : H → HostModel) → Kept old new before after
    → guest_slots (model new.host).held new.slots ≡ guest_slots (model old.host).held old.slots
    → guest_of model new after ≡ guest_of model old before
same_guest model kept slots = rw (slots, kept.table_max, kept.holdings, kept.memory) refl

-- the specification without the tree, and the turn over a modelled host
abbrev AtHost : {H : Type 0} → (H → HostModel) → (H → FaultCount) → (H → List Lookup) → View H → View H → List ℕ → List ℕ
    → Result Value P1Error → CallResult (Program (Value × Guest)) → Type 0
AtHost model faults lookups old new before after result m =
    AtFront (Same old new before after) (Quiet faults lookups old new) (guest_then model old new after) result m

abbrev Turn : {H : Type 0} → (H → HostModel) → (H → FaultCount) → View H → View H → List ℕ → List ℕ → Call → Result Value P1Error
    → Type 0
Turn model faults old new before after call result =
    Transitions model (Rose (faults old.host) (faults new.host)) old new before after (with_fuel old.fuel call) result

-- what came of a request
abbrev pub Did : {H A : Type 0} → (H → HostModel) → (H → FaultCount) → View H → View H → (r : Request) → (Reply r → CallResult A) → CallResult A
    → Type 0
Did model faults old new r next result =
    Does (Rose (faults old.host) (faults new.host)) (model old.host) (model new.host) r next result

-- the same, of one that leaves what these handles stand for
abbrev pub Made : {H A : Type 0} → (H → HostModel) → (H → FaultCount) → View H → View H → Handles → (r : Request) → (Reply r → CallResult A)
    → CallResult A → Type 0
Made model faults old new live r next result =
    Makes (Rose (faults old.host) (faults new.host)) live (model old.host) (model new.host) r next result

-- a file's descriptor is put back, at another position or with other modes
pub record PutBack {H : Type 0} (old new : View H) (fd : ℕ) (f : FileSlot) : Type 0 where
  pub slots : new.slots ≡ slice_set old.slots fd (File f)
  pub table_max : new.table_max ≡ old.table_max
  pub holdings : new.holdings ≡ old.holdings

abbrev pub guest_put : {H : Type 0} → (ℕ → OpenHandle) → View H → ℕ → FileSlot → List ℕ → Guest
guest_put held old fd f after = with_file (guest_by held old after) fd (open_file_of held f)

-- that is the guest after it, by what the handles stand for then
pub put_guest : {H : Type 0} {old new : View H} {fd : ℕ} {f : FileSlot} {after : List ℕ} (y : Value) (held stands : ℕ → OpenHandle)
    → PutBack old new fd f → stands f.file.file ≡ held f.file.file
    → guest_slots stands old.slots ≡ guest_slots held old.slots
    → ◌≡◌ {A = Value × Guest} (y, guest_put held old fd f after) (y, guest_by stands new after)
put_guest {old = old} {new = new} {fd = fd} {f = f} {after = after} y held stands put same kept =
    let placed = put_file_at held stands old.slots new.slots fd f put.slots same kept in
    λ i. (
      y,
      record {
        slots = sym placed i;
        table_max = sym put.table_max i;
        memory = after;
        holdings = sym put.holdings i;
      },
    )

-- what a reply leads to, as a specification's answer
abbrev as_answer : {A : Type 0} → (A → Value × Guest) → CallResult A → CallResult (Value × Guest)
as_answer shown m = m >>= (λ x. give (shown x))

module _ {H : Type 0} {modelled : Bool} {model : H → HostModel} {faults : H → FaultCount} {lookups : H → List Lookup}
    {old new : View H} {before after : List ℕ} {call : Call} where
  answer_follows : {x : Value} → length after ≡ length before → SlotsOfCall old.slots new.slots before call
      → new.fuel ≡ fuel_left (guest_of model old before) (with_fuel old.fuel call)
      → AtHost model faults lookups old new before after (Ok x)
      (call_spec (guest_of model old before) (with_fuel old.fuel call))
      → (IsTrue modelled → Turn model faults old new before after call (Ok x))
      → FollowsSpec modelled model faults lookups old new before after call (Ok x)
  answer_follows size slots took front turn = record {
    size = size;
    fuel = took;
    kept = tt;
    wants = λ want. absurd (never_ok want);
    slots = slots;
    front = front;
    turn = turn;
    permits = λ is names. turn_permits (turn is) names;
    near = λ is. turn_touches_near (turn is);
  }

  -- an answer without a request
  pub answered : {x : Value}
      → (Ok (done (x, guest_then model old new after)), new.fuel) ≡ front (guest_of model old before) call old.fuel
      → length after ≡ length before → SlotsOfCall old.slots new.slots before call
      → Quiet faults lookups old new → (IsTrue modelled → Stays (model old.host) (model new.host) new.slots)
      → FollowsSpec modelled model faults lookups old new before after call (Ok x)
  answered {x} at size slots quiet stays =
      let is : Ok (done (x, guest_then model old new after)) ≡ call_spec (guest_of model old before) (with_fuel old.fuel call) =
      spec_same at in
      answer_follows size slots (left_same at)
      (subst (AtHost model faults lookups old new before after (Ok x)) is (refl, quiet)) (λ modelled.
      let still = stays modelled in
      let placed = ap (λ slots. Ok (done (x, record (guest_of model new after) { slots = slots }))) still.slots in
      turns.answered (placed ∙ is) still.tree still.touched)

  -- one where a file's descriptor was put back
  pub put_answered : {x : Value} {fd : ℕ} {f was : FileSlot}
      → (Ok (done (x, guest_put (model old.host).held old fd f after)), new.fuel)
      ≡ front (guest_of model old before) call old.fuel
      → length after ≡ length before → PutBack old new fd f → Contains (descriptors_named before call) fd
      → slice_get old.slots fd ≡ Some (File was) → f.file ≡ was.file → new.host ≡ old.host
      → FollowsSpec modelled model faults lookups old new before after call (Ok x)
  put_answered {x} {fd} {f} at size put named is same host =
      let held = (model old.host).held in
      let ends : Value × Guest → CallResult (Program (Value × Guest)) × ℕ = λ p. (Ok (done p), new.fuel) in
      answered (ap ends (sym (put_guest {after = after} x held held put refl refl)) ∙ at) size
      (put_stays fd _ named is (ap (λ (file : OpenedFile). Some file.file) same) put.slots)
      (record { failed = ap faults host; looked = ap lookups host }) (λ modelled. record {
        tree = ap (λ (h : H). (model h).tree) host;
        touched = ap (λ (h : H). (model h).touched) host;
        slots = ap (λ (h : H). guest_slots (model h).held new.slots) host;
      })

  -- what follows of a request's reply, as a specification's answer
  module _ {r : Request} {A : Type 0} (next : Reply r → CallResult A) (shown : Guest → A → Value × Guest)
      (at : ask r (made_of_reply r next (shown (guest_of model old before))) new.fuel
      ≡ front (guest_of model old before) call old.fuel) where
    -- it wasn't answered
    err_follows : {e : P1Error} → IsReplied r next (Err e) → (e ≡ Memory → IsTrue (may_run_out_of_memory call))
        → KeptBut call e old new before after → (IsTrue modelled → Turn model faults old new before after call (Err e))
        → FollowsSpec modelled model faults lookups old new before after call (Err e)
    err_follows {e} replied wants kept turn = record {
      size = ap length kept.memory;
      kept = kept;
      wants = λ want. wants (reason want);
      slots = all_stay kept.slots;
      fuel = left_same at;
      front = subst (AtHost model faults lookups old new before after (Err e)) (spec_same at) (elim replied [
        | inl from ↦ inl from
        | inr (reply, may, is) ↦ inr (reply, may, ap (as_answer (shown (guest_of model old before))) is)
      ]);
      turn = turn;
      permits = λ is names. turn_permits (turn is) names;
      near = λ is. turn_touches_near (turn is);
    }

    -- the host refused, or failed, or wanted memory; or the specification refused the reply
    pub settled_err : {e : P1Error} → IsReplied r next (Err e) → (e ≡ Memory → IsTrue (may_run_out_of_memory call))
        → KeptBut call e old new before after
        → (IsTrue modelled → SettledAt model faults old new before after call e)
        → (IsTrue modelled → Did model faults old new r next (Err e))
        → FollowsSpec modelled model faults lookups old new before after call (Err e)
    settled_err {e} replied wants kept settled does = err_follows replied wants kept (λ modelled. elim (does modelled) [
      | inl asked ↦ turns.asked_err (spec_same at) (settled modelled) asked
      | inr (reply, asked, is) ↦ turns.asked_then_settled (spec_same at) (settled modelled) asked
          (ap (as_answer (shown (guest_of model old before))) is)
    ])

    -- the same of a call that has no use
    pub does_err : {e : P1Error} → IsReplied r next (Err e) → (e ≡ Memory → IsTrue (may_run_out_of_memory call))
        → IsTrue (spends_nothing call r) → Kept old new before after → GuestSlotsStay modelled model old new
        → (IsTrue modelled → Did model faults old new r next (Err e))
        → FollowsSpec modelled model faults lookups old new before after call (Err e)
    does_err replied wants none kept slots = settled_err replied wants (kept_but kept)
        (λ modelled. turns.unused (no_use _ _ (spec_same at) none) (same_guest model kept (slots modelled)))

    -- the specification refused the reply
    pub does_refused : {e : P1Error} → Follows r next (Err e) → (e ≡ Memory → IsTrue (may_run_out_of_memory call))
        → Kept old new before after → GuestSlotsStay modelled model old new
        → (IsTrue modelled → Answered (Rose (faults old.host) (faults new.host)) (model old.host) (model new.host) r next
        (Err e))
        → FollowsSpec modelled model faults lookups old new before after call (Err e)
    does_refused follows wants kept slots does = err_follows (inr follows) wants (kept_but kept) (λ modelled.
        let (reply, asked, is) = does modelled in
        turns.asked_then_err (spec_same at) (same_guest model kept (slots modelled)) asked
        (ap (as_answer (shown (guest_of model old before))) is))

    -- the specification answered the reply
    pub does_ok : {y : Value} {x x' : A} → length after ≡ length before → SlotsOfCall old.slots new.slots before call
        → Follows r next (Ok x)
        → shown (guest_of model old before) x ≡ (y, guest_then model old new after)
        → (IsTrue modelled → Did model faults old new r next (Ok x')
        × (shown (guest_of model old before) x' ≡ (y, guest_of model new after)))
        → FollowsSpec modelled model faults lookups old new before after call (Ok y)
    does_ok {y} size slots (reply, may, is) shows does =
        answer_follows size slots (left_same at)
        (subst (AtHost model faults lookups old new before after (Ok y)) (spec_same at) (reply, may, ap (as_answer (shown (guest_of model old before))) is ∙ ap give shows))
        (λ modelled. let (did, shown_so) = does modelled in turns.asked_ok (spec_same at) did.1 (ap (as_answer (shown (guest_of model old before))) did.2 ∙ ap give shown_so))

    -- ---- of a request that leaves what live handles stand for

    module _ {live : Handles} (owned : Owned live (handles old.slots)) where
      pub makes_err : {e : P1Error} → IsReplied r next (Err e) → (e ≡ Memory → IsTrue (may_run_out_of_memory call))
          → IsTrue (spends_nothing call r) → Kept old new before after
          → (IsTrue modelled → Made model faults old new live r next (Err e))
          → FollowsSpec modelled model faults lookups old new before after call (Err e)
      makes_err replied wants none kept makes = does_err replied wants none kept
          (λ modelled. ap (guest_slots (model new.host).held) kept.slots ∙ guest_slots_stay old.slots owned (makes modelled).keeps)
          (λ modelled. (makes modelled).does)

      -- the descriptors stay
      pub makes_ok : {y : Value} {x : A} → length after ≡ length before → Follows r next (Ok x)
          → shown (guest_of model old before) x ≡ (y, guest_then model old new after) → new.slots ≡ old.slots
          → (IsTrue modelled → Made model faults old new live r next (Ok x))
          → FollowsSpec modelled model faults lookups old new before after call (Ok y)
      makes_ok {y} size follows shows same makes = does_ok size (all_stay same) follows shows (λ modelled.
          let made = makes modelled in
          let stays : guest_slots (model new.host).held new.slots ≡ guest_slots (model old.host).held new.slots =
          ap (guest_slots (model new.host).held) same ∙ guest_slots_stay old.slots owned made.keeps
          ∙ ap (guest_slots (model old.host).held) (sym same) in (
            made.does,
            shows ∙ (λ i. (y, let g : Guest = record (guest_of model new after) { slots = sym stays i } in g)),
          ))

      -- a file's descriptor was put back
      pub put_ok : {y : Value} {fd : ℕ} {f was : FileSlot} {x : A} → length after ≡ length before
          → Follows r next (Ok x)
          → shown (guest_of model old before) x ≡ (y, guest_put (model old.host).held old fd f after)
          → PutBack old new fd f → Contains (descriptors_named before call) fd
          → slice_get old.slots fd ≡ Some (File was) → f.file ≡ was.file → contains live f.file.file ≡ true
          → (IsTrue modelled → Made model faults old new live r next (Ok x))
          → FollowsSpec modelled model faults lookups old new before after call (Ok y)
      put_ok {y} {fd} {f} {was} size follows shows put named is same stands makes =
          let held = (model old.host).held in
          does_ok size (put_stays fd _ named is (ap (λ (file : OpenedFile). Some file.file) same) put.slots) follows
          (shows ∙ put_guest y held held put refl refl) (λ modelled.
          let made = makes modelled in (
            made.does,
            shows ∙ put_guest y held (model new.host).held put (made.keeps f.file.file stands)
                (guest_slots_stay old.slots owned made.keeps),
          ))

-- an answer without a request, where nothing changed
pub answered_at_once : {H : Type 0} {modelled : Bool} {model : H → HostModel} {faults : H → FaultCount} {lookups : H → List Lookup}
    {inside view : View H} {memory : List ℕ} {call : Call} {x : Value}
    → inside ≡ view
    → (Ok (done (x, guest_of model inside memory)), inside.fuel) ≡ front (guest_of model inside memory) call inside.fuel
    → FollowsSpec modelled model faults lookups view view memory memory call (Ok x)
answered_at_once {modelled = modelled} {model = model} {faults = faults} {lookups = lookups} {inside = inside}
    {memory = memory} {call = call} {x = x} same at =
    subst (λ v. FollowsSpec modelled model faults lookups v v memory memory call (Ok x)) same
    (answered at refl (all_stay refl) (record { failed = refl; looked = refl })
    (λ modelled. record { tree = refl; touched = refl; slots = refl }))
