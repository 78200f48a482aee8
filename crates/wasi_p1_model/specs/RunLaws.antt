-- Laws of turns and runs.
use Rattle.std.specs.Prelude.{◌≡◌, ℕ, List, All, IsTrue, Result}
use Rattle.wasi_host.specs.HostLaws.{HostModel, Rose, FaultCount}
use Rattle.wasi_guest.specs.declared.call.Call.{Call}
use Rattle.wasi_host.specs.declared.host.Host.{Ghosts}
use Rattle.wasi_p1_model.specs.CallTransition.{IsAnswered, IsValidCall, Transitions}
use Rattle.wasi_p1_model.specs.Method.{MeetsSpec}
use Rattle.wasi_p1_model.specs.Reach.{Confined}
use Rattle.wasi_p1_types.specs.ErrorNumbers.{MayCome}
use Rattle.wasi_p1_model.specs.Trace.{TraceStep, Trace, IsComplete, answers_of}
use Rattle.wasi_p1_types.specs.Slots.{View}
use Rattle.wasi_p1_types.specs.Guest.{State, state_of}
use Rattle.wasi_p1_types.specs.Front.{FueledCall, with_fuel}
use Rattle.wasi_p1_types.specs.declared.error.P1Error.{P1Error}
use Rattle.wasi_guest.specs.declared.answer.Value.{Value}

-- where no turn is faulted, a state and calls have one run
abbrev pub RunsAreFunctions : Type 0
RunsAreFunctions =
    (old : State) (calls : List FueledCall) (turns turns' : List TraceStep) (new new' : State) → Trace 0 old calls turns new
    → Trace 0 old calls turns' new'
    → (turns ≡ turns') × (new ≡ new')

-- a call that does its specification, as each method does, is answered where it is valid, unless the host's count rose
-- in it
abbrev pub SpecsAreComplete : {H : Type 0} → Ghosts H → Type 0
SpecsAreComplete {H} host =
    (old new : View H) (before after : List ℕ) (call : Call) (result : Result Value P1Error)
    → MeetsSpec host old new before after call result → IsTrue host.modelled
    → (Rose (host.faults old.host) (host.faults new.host) → ⊥)
    → IsValidCall (state_of host.model old before) (with_fuel old.fuel call) → IsAnswered call result

-- each call of a run that is valid in the state before it is answered Ok, unless the host failed in it
abbrev pub RunsAreComplete : Type 0
RunsAreComplete =
    (k : ℕ) (old new : State) (calls : List FueledCall) (turns : List TraceStep) → Trace k old calls turns new
    → All IsComplete turns

-- no call of a run is answered another error number
abbrev pub OtherErrorsNeverCome : Type 0
OtherErrorsNeverCome =
    (k : ℕ) (old new : State) (calls : List FueledCall) (turns : List TraceStep) → Trace k old calls turns new
    → All MayCome (answers_of turns)

-- each turn over a modelled host keeps what was come to in reach of the start
abbrev pub TurnsAreConfined : {H : Type 0} → (H → HostModel) → Type 0
TurnsAreConfined {H} model =
    (start : State) (old new : View H) (before after : List ℕ) (call : FueledCall) (result : Result Value P1Error)
    (faults faults' : FaultCount)
    → Transitions model (Rose faults faults') old new before after call result
    → Confined start (state_of model old before) (model old.host).touched
    → Confined start (state_of model new after) (model new.host).touched
