-- What a call did, against its specification.
use Rattle.std.specs.Prelude.{ℕ, List, ◌≡◌, ◌⊎◌, Result, Ok, Err}
use Rattle.wasi_p1_types.specs.Guest.{Guest, State}
use Rattle.wasi_p1_types.specs.CallResult.{CallResult, Asks, starts, request_ends, request_comes}
use Rattle.wasi_p1_model.specs.Calls.{call_spec}
use Rattle.wasi_p1_types.specs.Spending.{growth_of, makes, spent}
use Rattle.wasi_p1_types.specs.Front.{FueledCall}
use Rattle.wasi_guest.specs.declared.errno.Errno.TheVariants as errnos
use Rattle.wasi_p1_types.specs.declared.error.P1Error.{P1Error}
use Rattle.wasi_p1_types.specs.declared.error.P1Error.TheVariants.{Errno, Memory}
use Rattle.wasi_guest.specs.declared.answer.Value.{Value}

-- the answer is the specification's first refusal, and the state stays
pub record SpecRefuses (before after : State) (e : P1Error) (call_spec : CallResult (Value × State)) : Type 0 where
  pub stays : after ≡ before
  pub spec_is : call_spec ≡ Err e

-- memory ran out, and the state stays
pub record Wants (before after : State) (e : P1Error) : Type 0 where
  pub memory : e ≡ Memory
  pub stays : after ≡ before

-- the guest with the use of a call added to its counts: one making of a call that makes something, and the growth of a
-- write or a new size
abbrev pub used_by : State → FueledCall → Guest
used_by s call =
    record s.guest { holdings = spent (makes call.call) (growth_of s.tree (call_spec s.guest call)) s.guest.holdings }

-- the one step that the specification makes in the tree, beside the guest with its use
abbrev pub StepTaken : Guest → State → CallResult (Value × State) → Type 0
StepTaken used after (Ok p) = after ≡ record { tree = p.1.tree; guest = used }
StepTaken used after (Err e) = ⊥

-- a faulted call leaves the state; or the state but for the use, which is counted; or it takes the specification's one
-- step and counts the use
abbrev pub AfterFault : Guest → State → State → CallResult (Value × State) → Type 0
AfterFault used before after call_spec =
    (after ≡ before) ⊎ ((after ≡ record before { guest = used }) ⊎ StepTaken used after call_spec)

-- the host failed where the specification comes to it
pub record Faults (rose reaches : Type 0) (used : Guest) (before after : State) (e : P1Error)
    (call_spec : CallResult (Value × State)) : Type 0 where
  pub io : e ≡ Errno errnos.Io
  pub count : rose
  pub came : reaches
  pub state : AfterFault used before after call_spec

-- the answer and the state after it are the specification's; or memory ran out; or the host failed
abbrev pub IsTransition : Type 0 → Type 0 → Guest → State → State → Result Value P1Error → CallResult (Value × State) → Type 0
IsTransition rose reaches used before after (Ok x) call_spec = call_spec ≡ Ok (x, after)
IsTransition rose reaches used before after (Err e) call_spec =
    SpecRefuses before after e call_spec ⊎ (Wants before after e ⊎ Faults rose reaches used before after e call_spec)

-- no refusal of the specification stands before its request
abbrev pub ReachesHost : State → FueledCall → Type 0
ReachesHost s call = Asks (call_spec s.guest call)

-- the nodes at which the paths of a call end
abbrev pub named_by : State → FueledCall → List ℕ
named_by s call = request_ends s.tree (call_spec s.guest call)

-- the nodes to which an answered call comes: these, or those of the handles by which it asks the host
abbrev pub come_to_by : State → FueledCall → List ℕ
come_to_by s call = request_comes s.tree (call_spec s.guest call)

-- the nodes from which a call reads or changes the tree
abbrev pub roots_of : State → FueledCall → List ℕ
roots_of s call = starts (call_spec s.guest call)
