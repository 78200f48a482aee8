-- What is said of a call of the context, over the sandbox that gave it its fuel.
use Rattle.std.proofs.Common.{◌≡◌, ℕ, Bool, true, List, None, Result, Ok, Err, refl, subst}
use Rattle.std.specs.Prelude.{IfSome, IsTrue}
use Rattle.wasi_host_faults.specs.Faults.{Failing, counted}
use Rattle.wasi_guest.specs.declared.answer.Value.{Value}
use Rattle.wasi_guest.specs.declared.call.Call.{Call}
use Rattle.wasi_host.specs.HostLaws.{FaultCount, Handles, Rose, HostModel, never_fails}
use Rattle.wasi_host.specs.declared.lookup.Lookup.{Lookup}
use Rattle.wasi_tree.specs.MemState.{MemState, live_of, model_of}
use Rattle.wasi_p1_model.specs.CallTransition.{Causes, FollowsSpec, IsAnswered, IsValidCall, Looks, LooksByNames, OthersStay}
use Rattle.wasi_p1_types.specs.ErrorNumbers.{MayCome}
use Rattle.wasi_p1_types.specs.Front.{with_fuel}
use Rattle.wasi_p1_types.specs.Guest.{state_of}
use Rattle.wasi_p1_model.specs.Calls.{looks_up}
use Rattle.wasi_p1_model.specs.Trace.{answer_of}
use Rattle.wasi_p1_types.specs.Slots.{View}
use Rattle.wasi_p1_model.specs.Unchanged.{LeavesAll}
use Rattle.wasi_p1_types.specs.declared.error.P1Error.{P1Error}
use Rattle.wasi_p1_model.proofs.Confining.{turn_confines}
use Rattle.wasi_p1_model.proofs.Unchanged.{any_fuel}
use Rattle.wasi_sandbox.specs.Ending.{end_of}
use Rattle.wasi_sandbox.specs.Calling.{answered_after, fueled, model_in, Called}
use Rattle.wasi_sandbox.specs.declared.sandbox.Sandbox.{Sandbox}

-- a tree tells what is seen of it, and never fails by itself
pub record IsSeen {T : Type 0} (seen : T → MemState) (modelled : Bool) (model : T → HostModel) (live : T → Handles)
    (lookups : T → List Lookup) (faults : T → FaultCount) : Type 0 where
  pub tells : IsTrue modelled
  pub models : (t : T) → model t ≡ model_of (seen t)
  pub lives : (t : T) → live t ≡ live_of (seen t).handles
  pub looks : (t : T) → lookups t ≡ (seen t).lookups
  pub quiet : (t : T) → faults t ≡ never_fails

-- all that is said of a call over a tree after calls that fail
pub record Did {T : Type 0} (given new : View (Failing T)) (before after : List ℕ) (call : Call)
    (result : Result Value P1Error) (modelled : Bool) (model : T → HostModel) (live : T → Handles) (lookups : T → List Lookup)
    (faults : T → FaultCount) : Type 0 where
  pub cause : Causes (counted (faults given.host.inner) given.host.calls) (counted (faults new.host.inner) new.host.calls) result
  pub handles : OthersStay (λ (h : Failing T). live h.inner) given new
  pub provenance : Looks (λ (h : Failing T). lookups h.inner) given new before call
  pub logged : LooksByNames (looks_up call) (lookups given.host.inner) (lookups new.host.inner)
  pub unchanged : LeavesAll modelled (λ (h : Failing T). model h.inner) given new before after result
  pub turn : FollowsSpec modelled (λ (h : Failing T). model h.inner) (λ (h : Failing T). counted (faults h.inner) h.calls)
      (λ (h : Failing T). lookups h.inner) given new before after call result
  pub complete : (Rose (counted (faults given.host.inner) given.host.calls) (counted (faults new.host.inner) new.host.calls) → ⊥)
      → IsValidCall (state_of (λ (h : Failing T). model h.inner) given before) (with_fuel given.fuel call)
      → IsAnswered call result
  pub errnos : IfSome (answer_of result) MayCome

-- what is said by a tree's own members is said by what is seen of it
by_seen : {T : Type 0} {seen : T → MemState} {modelled : Bool} {model : T → HostModel} {live : T → Handles}
    {lookups : T → List Lookup} {faults : T → FaultCount}
    (P : Bool → (T → HostModel) → (T → Handles) → (T → List Lookup) → (T → FaultCount) → Type 0)
    → IsSeen seen modelled model live lookups faults → P modelled model live lookups faults
    → P true (λ t. model_of (seen t)) (λ t. live_of (seen t).handles) (λ t. (seen t).lookups) (λ _. never_fails)
by_seen {T} {seen} {modelled} {model} {live} {lookups} {faults} P is holds =
    let tells = subst (λ b. P b model live lookups faults) is.tells holds in
    let models = subst (λ (w : T → HostModel). P true w live lookups faults) (λ i t. is.models t i) tells in
    let lives = subst (λ (l : T → Handles). P true (λ t. model_of (seen t)) l lookups faults) (λ i t. is.lives t i) models in
    let looks = subst (λ (l : T → List Lookup). P true (λ t. model_of (seen t)) (λ t. live_of (seen t).handles) l faults)
    (λ i t. is.looks t i) lives in
    subst (λ (f : T → FaultCount). P true (λ t. model_of (seen t)) (λ t. live_of (seen t).handles) (λ t. (seen t).lookups) f)
    (λ i t. is.quiet t i) looks

-- the fuel isn't among what a call leaves
leaves_all : {T : Type 0} (seen : T → MemState) (s : Sandbox T) (new : View (Failing T)) (before after : List ℕ)
    (result : Result Value P1Error)
    → LeavesAll true (model_in seen) (fueled s) new before after result
    → LeavesAll true (model_in seen) s.context new before after result
leaves_all seen s new before after (Ok value) leaves = tt
leaves_all seen s new before after (Err error) leaves = λ other. any_fuel (leaves other)

-- a call of the context with the sandbox's fuel is one of the sandbox
pub called : {T : Type 0} {seen : T → MemState} {modelled : Bool} {model : T → HostModel} {live : T → Handles}
    {lookups : T → List Lookup} {faults : T → FaultCount} (s : Sandbox T) (new : View (Failing T)) (before after : List ℕ)
    (call : Call) (result : Result Value P1Error)
    → s.ended ≡ None → IsSeen seen modelled model live lookups faults
    → Did (fueled s) new before after call result modelled model live lookups faults
    → Called seen s (record { context = new; fuel = s.fuel; answered = answered_after s.answered result; ended = end_of result })
    before after call result
called {T} {seen} s new before after call result running is did =
    let all = by_seen (Did (fueled s) new before after call result) is did in
    record {
      cause = all.cause;
      handles = all.handles;
      provenance = all.provenance;
      logged = all.logged;
      unchanged = leaves_all seen s new before after result all.unchanged;
      turn = all.turn;
      complete = all.complete;
      errnos = all.errnos;
      confined = λ start was. turn_confines (all.turn.turn refl) was;
      fuel = refl;
      answered = refl;
      running = running;
      ended = refl;
    }
