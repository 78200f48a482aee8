-- A call of which the host forgot first what was touched before it.
use Rattle.std.proofs.Common.{ℕ, ◌≡◌, true, List, refl, ap, ◌∙◌, subst, Some, Result}
use Rattle.std.specs.FinSet.{from_list}
use Rattle.std.specs.Ordering.{nat_cmp}
use Rattle.wasi_audit.specs.Audits.{Audited, noted}
use Rattle.wasi_host_faults.specs.Faults.{Failing, counted}
use Rattle.wasi_guest.specs.declared.answer.Answer.{Answer}
use Rattle.wasi_guest.specs.declared.answer.Value.{Value}
use Rattle.wasi_guest.specs.declared.call.Call.{Call}
use Rattle.wasi_host.specs.HostLaws.{HostModel, FaultCount, Rose, forgotten, never_fails}
use Rattle.wasi_host.specs.declared.lookup.Lookup.{Lookup}
use Rattle.wasi_script.specs.AuditedRun.{AuditedTurn}
use Rattle.wasi_script.specs.Through.{effect_of}
use Rattle.wasi_setup.specs.Start.{model_behind}
use Rattle.wasi_tree.specs.MemState.{MemState}
use Rattle.wasi_p1_model.specs.CallTransition.{Causes, FollowsSpec, Turns}
use Rattle.wasi_p1_types.specs.Front.{with_fuel}
use Rattle.wasi_p1_types.specs.Guest.{Guest, guest_by, guest_of}
use Rattle.wasi_p1_model.specs.Locality.{TouchesOnlyNear}
use Rattle.wasi_p1_model.specs.Calls.{descriptors_named}
use Rattle.wasi_p1_model.specs.Trace.{answer_of}
use Rattle.wasi_p1_types.specs.Slots.{View}
use Rattle.wasi_p1_types.specs.declared.error.P1Error.{P1Error}

abbrev faults_of : Failing MemState → FaultCount
faults_of host = counted never_fails host.calls

-- the context before the call: the host forgot what was touched, and this much fuel is set
pub record IsReady (old ready : View (Failing MemState)) (fuel : ℕ) : Type 0 where
  pub forgot : View (Failing MemState)
  pub kept : forgot ≡ record old { host = forgot.host }
  pub model : model_behind forgot.host ≡ forgotten (model_behind old.host)
  pub faults : faults_of forgot.host ≡ faults_of old.host
  pub fueled : ready ≡ record forgot { fuel = fuel }

module _ {old ready : View (Failing MemState)} {fuel : ℕ} (is : IsReady old ready fuel) where
  same_model : model_behind ready.host ≡ forgotten (model_behind old.host)
  same_model = ap (λ (v : View (Failing MemState)). model_behind v.host) is.fueled ∙ is.model

  same_faults : faults_of ready.host ≡ faults_of old.host
  same_faults = ap (λ (v : View (Failing MemState)). faults_of v.host) is.fueled ∙ is.faults

  pub ready_guest : (memory : List ℕ) → guest_of model_behind ready memory ≡ guest_of model_behind old memory
  ready_guest memory =
      ap (λ v. guest_of model_behind v memory) (is.fueled ∙ ap (λ (v : View (Failing MemState)). record v { fuel = fuel }) is.kept)
      ∙ ap (λ (w : HostModel). guest_by w.held old memory) is.model

  pub ready_turn : {new : View (Failing MemState)} {lookups : Failing MemState → List Lookup} {before after : List ℕ} {call : Call}
      {result : Result Value P1Error} → FollowsSpec true model_behind faults_of lookups ready new before after call result
      → Turns (Rose (faults_of old.host) (faults_of new.host)) (forgotten (model_behind old.host)) (model_behind new.host)
      (guest_of model_behind old before) (guest_of model_behind new after) (with_fuel fuel call) result
  ready_turn {new} {before = before} {after = after} {call = call} {result = result} follows =
      subst (λ (q : FaultCount × (HostModel × (Guest × ℕ))). Turns (Rose q.0 (faults_of new.host)) q.1.0 (model_behind new.host) q.1.1.0
      (guest_of model_behind new after) (with_fuel q.1.1.1 call) result)
      (λ i. (same_faults i, (same_model i, (ready_guest before i, ap (λ (v : View (Failing MemState)). v.fuel) is.fueled i))))
      (follows.turn refl)

  pub noted_call : {new : View (Failing MemState)} {lookups : Failing MemState → List Lookup} {before after : List ℕ} {call : Call}
      {answer : Answer} {was now : Audited} (result : Result Value P1Error) (names touched : List ℕ)
      → FollowsSpec true model_behind faults_of lookups ready new before after call result
      → Causes (faults_of ready.host) (faults_of new.host) result → answer_of result ≡ Some answer
      → from_list {R = nat_cmp} touched ≡ (model_behind new.host).touched → names ≡ descriptors_named before call
      → now ≡ noted names touched (effect_of call answer) was
      → AuditedTurn (faults_of old.host) (faults_of new.host) (model_behind old.host) (model_behind new.host)
      (guest_of model_behind old before) (guest_of model_behind new after) (with_fuel fuel call) was now answer
  noted_call {new} {before = before} {call = call} {answer = answer} {was = was} result names touched follows cause answers nodes named notes = record {
    result = result;
    answers = answers;
    cause = subst (λ faults. Causes faults (faults_of new.host) result) same_faults cause;
    turn = ready_turn follows;
    near = subst (λ (q : HostModel × Guest). TouchesOnlyNear q.0 (model_behind new.host) q.1 call)
        (λ i. (same_model i, ready_guest before i)) (follows.near refl);
    touched = touched;
    touched_are = nodes;
    notes = notes ∙ ap (λ names. noted names touched (effect_of call answer) was) named;
  }
