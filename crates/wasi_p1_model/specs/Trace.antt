-- Calls one after another, up to the first whose answer ends the run.
use Rattle.std.specs.Prelude.{ℕ, suc, ◌+◌, ◌-◌, ◌^◌, ◌≤◌, ◌≡◌, ◌⊎◌, Bool, true, false, List, [], ◌∷◌, length, take, map, slice_get, Result, Ok, Err, Option, Some, None, option_map, MatchBool, All, IsTrue, if◌then◌else◌}
use Rattle.std.specs.List.{flat_map}
use Rattle.std.specs.FinSet.{contains}
use Rattle.wasi_host.specs.HostLaws.{FaultCount}
use Rattle.wasi_host.specs.Tree.{Nodes}
use Rattle.wasi_p1_model.specs.CallTransition.{IsValidCall}
use Rattle.wasi_p1_types.specs.Guest.{State}
use Rattle.wasi_p1_types.specs.CallResult.{CallResult}
use Rattle.wasi_p1_model.specs.Calls.{turn, may_run_out_of_memory}
use Rattle.wasi_p1_types.specs.Slots.{View}
use Rattle.wasi_p1_model.specs.Transition.{AfterFault, ReachesHost, named_by, used_by}
use Rattle.wasi_guest.specs.declared.answer.Answer.{Answer}
use Rattle.wasi_guest.specs.declared.answer.Answer.TheVariants as answers
use Rattle.wasi_guest.specs.declared.call.Call.{Call}
use Rattle.wasi_p1_types.specs.Front.{FueledCall}
use Rattle.wasi_guest.specs.declared.errno.Errno.{Errno as ErrorNumber}
use Rattle.wasi_guest.specs.declared.errno.Errno.TheVariants.{Io}
use Rattle.wasi_p1_model.specs.Owners.{one_if}
use Rattle.wasi_p1_types.specs.declared.error.P1Error.{P1Error}
use Rattle.wasi_p1_types.specs.declared.error.P1Error.TheVariants.{Errno, Trap, Exit, Memory}
use Rattle.wasi_guest.specs.declared.answer.Value.{Value}
use Rattle.wasi_p1_types.specs.declared.error.RunError.{RunError}
use Rattle.wasi_p1_types.specs.declared.error.RunError.TheVariants as errors

-- what a call is answered; out of memory is no answer
abbrev pub answer_of : Result Value P1Error → Option Answer
answer_of (Ok x) = Some (answers.Ok x)
answer_of (Err (Errno e)) = Some (answers.Errno e)
answer_of (Err (Trap kind)) = Some (answers.Trap kind)
answer_of (Err (Exit status)) = Some (answers.Exit status)
answer_of (Err Memory) = None

-- a trap ends the run, and so does the guest itself
abbrev pub ends : Answer → Bool
ends (answers.Ok x) = false
ends (answers.Errno e) = false
ends (answers.Trap kind) = true
ends (answers.Exit status) = true

-- none of the answers ends the run
abbrev pub GoOn : List Answer → Type 0
GoOn [] = Unit {0}
GoOn (a ∷ answers) = (ends a ≡ false) × GoOn answers

-- one call of a run
pub record TraceStep : Type 0 where
  pub before : State
  pub call : FueledCall
  pub answer : Answer
  pub after : State

-- the answer of a specification in a state, and the state after it
abbrev pub Gives : CallResult (Value × State) → State → Answer → State → Type 0
Gives (Ok p) old answer new = (answer ≡ answers.Ok p.0) × (new ≡ p.1)
Gives (Err e) old answer new = (answer_of (Err e) ≡ Some answer) × (new ≡ old)

-- the call is answered by its specification
abbrev pub Played : TraceStep → Type 0
Played t = Gives (turn t.before t.call) t.before t.answer t.after

-- the host failed in a call that came to it: the answer is `io`, and the state is the one before; or that with the use
-- of the call counted, and perhaps with the specification's one step
pub record Faulted (t : TraceStep) : Type 0 where
  pub came : ReachesHost t.before t.call
  pub io : t.answer ≡ answers.Errno Io
  pub state : AfterFault (used_by t.before t.call) t.before t.after (turn t.before t.call)

-- a turn of a run that has k faulted turns left before it, and j after it
abbrev pub Spends : ℕ → ℕ → TraceStep → Type 0
Spends k j t = (Played t × (j ≡ k)) ⊎ (Faulted t × (suc j ≡ k))

-- The turns of these calls in order from a state, at most k of them faulted, up to and including the first whose answer
-- ends the run
abbrev pub Trace : ℕ → State → List FueledCall → List TraceStep → State → Type 0
Trace k old [] [] new = new ≡ old
Trace k old [] (t ∷ turns) new = ⊥
Trace k old (call ∷ calls) [] new = ⊥
Trace k old (call ∷ calls) (t ∷ turns) new = (j : ℕ) × (t.before ≡ old) × (t.call ≡ call) × Spends k j t
    × MatchBool (ends t.answer) ((turns ≡ []) × (new ≡ t.after)) (Trace j t.after calls turns new)

-- one answer for each call, up to the first that ends the run
abbrev pub AnswersEach : List FueledCall → List Answer → Type 0
AnswersEach [] [] = Unit {0}
AnswersEach [] (a ∷ answers) = ⊥
AnswersEach (call ∷ calls) [] = ⊥
AnswersEach (call ∷ calls) (a ∷ answers) = MatchBool (ends a) (answers ≡ []) (AnswersEach calls answers)

-- so many faults are allowed by what the count rose by; a count at its end allows any number
abbrev pub Allows : FaultCount → FaultCount → ℕ → Type 0
Allows before now k = (before.count + k ≤ now.count) ⊎ (2 ^ 64 - 1 ≤ now.count)

-- how many answers are `io`
abbrev pub is_io_errno : ErrorNumber → Bool
is_io_errno Io = true
is_io_errno e = false

abbrev pub io_in : Answer → ℕ
io_in (answers.Ok x) = 0
io_in (answers.Errno e) = one_if (is_io_errno e)
io_in (answers.Trap kind) = 0
io_in (answers.Exit status) = 0

abbrev pub ios : List Answer → ℕ
ios [] = 0
ios (a ∷ rest) = io_in a + ios rest

abbrev pub answers_of : List TraceStep → List Answer
answers_of turns = map (λ t. t.answer) turns

abbrev pub is_success : Answer → Bool
is_success (answers.Ok x) = true
is_success (answers.Errno e) = false
is_success (answers.Trap kind) = false
is_success (answers.Exit status) = false

-- the nodes at which the paths of a call ended, if it is answered Ok
abbrev pub ends_of : TraceStep → List ℕ
ends_of t = if is_success t.answer then named_by t.before t.call else []

-- those of all calls
abbrev pub named : List TraceStep → List ℕ
named turns = flat_map ends_of turns

-- a call that is valid in the state before it is answered Ok, unless the host failed in it
abbrev pub IsComplete : TraceStep → Type 0
IsComplete t = IsValidCall t.before t.call → IsTrue (is_success t.answer) ⊎ Faulted t

-- a run of these calls with these answers, from a count of faults to another, in which each valid call is answered Ok
-- unless the host failed in it, and that touched each node at which a path ended
pub record RefinesTrace (before now : FaultCount) (old : State) (calls : List FueledCall) (answers : List Answer) (new : State)
    (touched : Nodes) : Type 0 where
  pub turns : List TraceStep
  pub faults : ℕ
  pub allowed : Allows before now faults
  pub run : Trace faults old calls turns new
  pub answers_are : answers ≡ answers_of turns
  pub complete : All IsComplete turns
  pub ends_touched : All (λ n. contains touched n ≡ true) (named turns)

-- out of memory: all stands as after the first n calls, none of which was answered so that it ends the run
pub record StoodAt (before now : FaultCount) (old : State) (calls : List FueledCall) (n : ℕ) (new : State)
    (touched : Nodes) : Type 0 where
  pub answers : List Answer
  pub count : length answers ≡ n
  pub go_on : GoOn answers
  pub run : RefinesTrace before now old (take n calls) answers new touched

-- Memory was wanted once n of these calls were answered: by the next of them, which is one that takes memory; or for
-- the answers, before the first, and nothing changed
abbrev pub OutOfMemoryAt : {H : Type 0} → View H → View H → List ℕ → List ℕ → List Call → ℕ → Type 0
OutOfMemoryAt old new before after calls n =
    (option_map may_run_out_of_memory (slice_get calls n) ≡ Some true) ⊎ ((n ≡ 0) × (new ≡ old) × (after ≡ before))

-- how many calls were answered before memory ran out
abbrev pub answered_in : RunError → ℕ
answered_in (errors.Memory n) = n
