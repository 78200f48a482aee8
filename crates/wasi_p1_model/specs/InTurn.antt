-- Calls of a context one after another, over every host.
use Rattle.std.specs.Prelude.{ℕ, ◌≡◌, ◌⊎◌, List, [], ◌∷◌, length, take, slice_get, Contains, Some, Result, Err, MatchBool}
use Rattle.wasi_host.specs.declared.host.Host.{Ghosts}
use Rattle.wasi_guest.specs.declared.answer.Answer.{Answer}
use Rattle.wasi_guest.specs.declared.answer.Value.{Value}
use Rattle.wasi_guest.specs.declared.call.Call.{Call}
use Rattle.wasi_p1_model.specs.Method.{MeetsSpec, KeepsHostLaws}
use Rattle.wasi_p1_model.specs.Owners.{ClosedBy, SlotsStay}
use Rattle.wasi_p1_model.specs.Calls.{descriptors_named}
use Rattle.wasi_p1_model.specs.Trace.{answer_of, ends, GoOn}
use Rattle.wasi_p1_types.specs.Slots.{View}
use Rattle.wasi_p1_model.specs.Unchanged.{AsBefore}
use Rattle.wasi_p1_types.specs.declared.error.P1Error.{P1Error}
use Rattle.wasi_p1_types.specs.declared.slots.Slot.{Slot}
use Rattle.wasi_p1_types.specs.declared.error.P1Error.TheVariants.{Memory}

-- one call with this fuel, from a context and a memory to those after it: it does its specification, and stays in its
-- bounds
pub record DoesCall {H : Type 0} (host : Ghosts H) (fuel : ℕ) (old new : View H) (before after : List ℕ) (call : Call)
    (result : Result Value P1Error) : Type 0 where
  pub call_spec : MeetsSpec host (record old { fuel = fuel }) new before after call result
  pub bounds : KeepsHostLaws host (record old { fuel = fuel }) new before call result

-- it is answered so, and leaves a context and a memory
pub record IsAnsweredSo {H : Type 0} (host : Ghosts H) (fuel : ℕ) (old : View H) (before : List ℕ) (call : Call)
    (answer : Answer) : Type 0 where
  pub new : View H
  pub after : List ℕ
  pub result : Result Value P1Error
  pub is : answer_of result ≡ Some answer
  pub does : DoesCall host fuel old new before after call result

-- Calls in order with these answers, each from where the one before it left off, up to and including the first whose
-- answer ends the run
abbrev pub DoCalls : {H : Type 0} → Ghosts H → ℕ → View H → List ℕ → List Call → List Answer → View H → List ℕ → Type 0
DoCalls host fuel old before [] [] new after = (new ≡ old) × (after ≡ before)
DoCalls host fuel old before [] (a ∷ answers) new after = ⊥
DoCalls host fuel old before (call ∷ calls) [] new after = ⊥
DoCalls host fuel old before (call ∷ calls) (a ∷ answers) new after =
    (one : IsAnsweredSo host fuel old before call a)
    × MatchBool (ends a) ((answers ≡ []) × (new ≡ one.new) × (after ≡ one.after))
    (DoCalls host fuel one.new one.after calls answers new after)

-- Memory was wanted by the call of this place, from this context and memory on; or for the answers, before the first
-- call, and nothing changed
abbrev pub WantsFrom : {H : Type 0} → Ghosts H → ℕ → View H → List ℕ → List Call → ℕ → View H → List ℕ → Type 0
WantsFrom host fuel old before calls n new after =
    ((call : Call) × (slice_get calls n ≡ Some call) × DoesCall host fuel old new before after call (Err Memory))
    ⊎ ((n ≡ 0) × (new ≡ old) × (after ≡ before))

-- The first n calls were answered, none of them so that it ends the run, and then memory ran out: all stands as
-- after these
pub record DoCallsUntil {H : Type 0} (host : Ghosts H) (fuel : ℕ) (old : View H) (before : List ℕ) (calls : List Call)
    (n : ℕ) (new : View H) (after : List ℕ) : Type 0 where
  pub answers : List Answer
  pub count : length answers ≡ n
  pub go_on : GoOn answers
  pub mid : View H
  pub memory : List ℕ
  pub did : DoCalls host fuel old before (take n calls) answers mid memory
  pub wanted : WantsFrom host fuel mid memory calls n new after
  pub stands : AsBefore host.modelled host.model mid new memory after

-- a call of a list meets this memory: those before it, made from the start, leave it
pub record Meets {H : Type 0} (host : Ghosts H) (fuel : ℕ) (old : View H) (before : List ℕ) (calls : List Call)
    (call : Call) (memory : List ℕ) : Type 0 where
  pub place : ℕ
  pub is : slice_get calls place ≡ Some call
  pub answers : List Answer
  pub mid : View H
  pub did : DoCalls host fuel old before (take place calls) answers mid memory

-- a call of these names the number, by its arguments or by what stands in the memory that it meets
abbrev pub NamedBy : {H : Type 0} → Ghosts H → ℕ → View H → List ℕ → List Call → ℕ → Type 0
NamedBy host fuel old before calls n =
    (call : Call) × ((memory : List ℕ) × Meets host fuel old before calls call memory
    × Contains (descriptors_named memory call) n)

-- The descriptors after a run of these calls. One that no call names, by the memory that it meets, stays whole; and one
-- that none closes keeps its handle
abbrev pub SlotsOfRun : {H : Type 0} → Ghosts H → ℕ → View H → List ℕ → List Call → List Slot → Type 0
SlotsOfRun host fuel old before calls table =
    SlotsStay (NamedBy host fuel old before calls) (ClosedBy calls) old.slots table
