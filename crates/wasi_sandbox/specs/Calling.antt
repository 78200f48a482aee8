-- What a call of a sandbox does.
use Rattle.std.specs.Prelude.{◌≡◌, ℕ, ◌+◌, ◌-◌, ◌^◌, true, false, List, length, min, None, Some, Result, Err, IfSome}
use Rattle.wasi_host_faults.specs.Faults.{Failing, counted}
use Rattle.wasi_guest.specs.declared.answer.TrapKind.TheVariants.{Pointer}
use Rattle.wasi_guest.specs.declared.answer.Value.{Value}
use Rattle.wasi_guest.specs.declared.call.Call.{Call}
use Rattle.wasi_host.specs.HostLaws.{FaultCount, Handles, Rose, HostModel, never_fails}
use Rattle.wasi_host.specs.declared.lookup.Lookup.{Lookup}
use Rattle.wasi_p1_model.specs.CallTransition.{Causes, FollowsSpec, IsAnswered, IsValidCall, Looks, LooksByNames, OthersStay}
use Rattle.wasi_p1_model.specs.Calls.{looks_up}
use Rattle.wasi_p1_types.specs.ErrorNumbers.{MayCome}
use Rattle.wasi_p1_types.specs.Front.{with_fuel}
use Rattle.wasi_p1_types.specs.Guest.{State, state_of}
use Rattle.wasi_p1_model.specs.Reach.{Confined}
use Rattle.wasi_p1_model.specs.Trace.{answer_of}
use Rattle.wasi_p1_types.specs.Slots.{View}
use Rattle.wasi_p1_model.specs.Unchanged.{LeavesAll}
use Rattle.wasi_p1_types.specs.declared.error.P1Error.{P1Error}
use Rattle.wasi_p1_types.specs.declared.error.P1Error.TheVariants.{Memory, Trap}
use Rattle.wasi_sandbox.specs.Ending.{end_of, error_of}
use Rattle.wasi_sandbox.specs.declared.guest_end.GuestEnd.{GuestEnd}
use Rattle.wasi_sandbox.specs.declared.guest_end.GuestEnd.TheVariants as ends
use Rattle.wasi_sandbox.specs.Results.{has_room, with_answer}
use Rattle.wasi_sandbox.specs.declared.result_layout.ResultLayout.{ResultLayout}
use Rattle.wasi_tree.specs.MemState.{MemState, live_of, model_of}
use Rattle.wasi_sandbox.specs.declared.sandbox.Sandbox.{Sandbox}

-- ---- a sandbox's host: a tree of any kind, which is seen as one in memory is, after calls that fail

abbrev pub model_in : {T : Type 0} → (T → MemState) → Failing T → HostModel
model_in seen host = model_of (seen host.inner)

abbrev pub faults_in : {T : Type 0} → Failing T → FaultCount
faults_in host = counted never_fails host.calls

abbrev pub live_in : {T : Type 0} → (T → MemState) → Failing T → Handles
live_in seen host = live_of (seen host.inner).handles

abbrev pub lookups_in : {T : Type 0} → (T → MemState) → Failing T → List Lookup
lookups_in seen host = (seen host.inner).lookups

-- ---- a sandbox

-- with the fuel of a call
abbrev pub fueled : {T : Type 0} → Sandbox T → View (Failing T)
fueled s = record s.context { fuel = s.fuel }

-- the state of a sandbox whose guest has this memory
abbrev pub state_with : {T : Type 0} → (T → MemState) → Sandbox T → List ℕ → State
state_with seen s memory = state_of (model_in seen) s.context memory

-- the host failed in between
abbrev pub Failed : {T : Type 0} → Sandbox T → Sandbox T → Type 0
Failed old new = Rose (faults_in old.context.host) (faults_in new.context.host)

-- one answer more, but where memory ran out; no more than 64 bits hold
abbrev pub answered_after : ℕ → Result Value P1Error → ℕ
answered_after answered (Err Memory) = answered
answered_after answered result = min (answered + 1) (2 ^ 64 - 1)

-- The sandbox's guest was in reach of a start, and is after it; with what it has of its memory that reach has nothing to do
abbrev pub StaysConfined : {T : Type 0} → (T → MemState) → Sandbox T → Sandbox T → List ℕ → List ℕ → Type 0
StaysConfined seen old new before after = (start : State)
    → Confined start (state_with seen old before) (seen old.context.host.inner).touched
    → Confined start (state_with seen new after) (seen new.context.host.inner).touched

-- What a call that is made does, from a sandbox over a tree that is seen so, and the memory that is lent, to those after it:
-- what is said of the method of its name, with the fuel of a call, but for what the laws of turns say of its turn. A valid
-- call is answered, unless the host failed or memory ran out; no error number comes but those that may; what is accessed
-- stays in reach; a trap, or the guest's own end, ends its run
pub record Called {T : Type 0} (seen : T → MemState) (old new : Sandbox T) (before after : List ℕ) (call : Call)
    (result : Result Value P1Error) : Type 0 where
  pub cause : Causes (faults_in old.context.host) (faults_in new.context.host) result
  pub handles : OthersStay (live_in seen) old.context new.context
  pub provenance : Looks (lookups_in seen) old.context new.context before call
  pub logged : LooksByNames (looks_up call) (lookups_in seen old.context.host) (lookups_in seen new.context.host)
  pub unchanged : LeavesAll true (model_in seen) old.context new.context before after result
  pub turn : FollowsSpec true (model_in seen) faults_in (lookups_in seen) (fueled old) new.context before after call result
  pub complete : (Failed old new → ⊥) → IsValidCall (state_with seen old before) (with_fuel old.fuel call)
      → IsAnswered call result
  pub errnos : IfSome (answer_of result) MayCome
  pub confined : StaysConfined seen old new before after
  pub fuel : new.fuel ≡ old.fuel
  pub answered : new.answered ≡ answered_after old.answered result
  pub running : old.ended ≡ None
  pub ended : new.ended ≡ end_of result

-- A call. Where the guest's run has ended it is answered by that end, and nothing changes; else it is made
pub data Calls {T : Type 0} (seen : T → MemState) (old new : Sandbox T) (before after : List ℕ) (call : Call)
    : Result Value P1Error → Type 0 where
  has_ended : {end : GuestEnd} → old.ended ≡ Some end → new ≡ old → after ≡ before
      → Calls seen old new before after call (Err (error_of end))
  is_made : {result : Result Value P1Error} → Called seen old new before after call result
      → Calls seen old new before after call result

-- A call whose results go to addresses, as what their shape says. Where the guest's run has ended it is answered by that end. Where an address isn't
-- aligned, or a result would leave the memory, it traps and isn't made, and ends the run. Else it is made, and what it is
-- answered stands there over the memory that it left
pub data CalledInto {T : Type 0} (seen : T → MemState) (old new : Sandbox T) (before after : List ℕ) (call : Call)
    (to : ResultLayout) : Result Value P1Error → Type 0 where
  over : {end : GuestEnd} → old.ended ≡ Some end → new ≡ old → after ≡ before
      → CalledInto seen old new before after call to (Err (error_of end))
  no_room : old.ended ≡ None → has_room (length before) to ≡ false
      → new ≡ record old { ended = Some (ends.Trap Pointer) } → after ≡ before
      → CalledInto seen old new before after call to (Err (Trap Pointer))
  made : {result : Result Value P1Error} → has_room (length before) to ≡ true → (memory : List ℕ)
      → Called seen old new before memory call result → after ≡ with_answer memory to result
      → CalledInto seen old new before after call to result
