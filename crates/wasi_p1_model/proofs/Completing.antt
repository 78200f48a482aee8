-- A valid call is answered, unless memory ran out or the host failed.
use Rattle.std.proofs.Common.{ℕ, ◌≡◌, ◌⊎◌, inl, inr, List, ap, sym, subst, Result, Ok, Err}
use Rattle.std.specs.Prelude.{All, IsTrue, is_ok}
use Rattle.wasi_host.specs.HostLaws.{HostModel}
use Rattle.wasi_guest.specs.declared.answer.Answer.{Answer}
use Rattle.wasi_guest.specs.declared.answer.Value.{Value}
use Rattle.wasi_p1_model.specs.CallTransition.{Turns, IsAnswered, IsValidCall, in_model}
use Rattle.wasi_p1_types.specs.Front.{FueledCall}
use Rattle.wasi_p1_types.specs.Guest.{Guest, State}
use Rattle.wasi_p1_types.specs.CallResult.{CallResult}
use Rattle.wasi_p1_model.specs.Calls.{may_run_out_of_memory, turn}
use Rattle.wasi_p1_model.specs.Trace.{TraceStep, Trace, Gives, Played, Faulted, IsComplete, is_success}
use Rattle.wasi_p1_types.specs.declared.error.P1Error.{P1Error}
use Rattle.wasi_p1_types.specs.declared.error.P1Error.TheVariants.{Memory}
use Rattle.wasi_p1_model.proofs.Moving.{each_turn}

-- no refusal is valid
refuses : {e : P1Error} {P : Type 0} (m : CallResult (Value × State)) → m ≡ Err e → IsTrue (is_ok m) → P
refuses (Ok p) is valid = absurd (cc)
refuses (Err e) is valid = absurd (cc)

pub turn_completes : {rose : Type 0} {w v : HostModel} {g g' : Guest} {call : FueledCall} (result : Result Value P1Error)
    → Turns rose w v g g' call result → (result ≡ Err Memory → IsTrue (may_run_out_of_memory call.call)) → (rose → ⊥)
    → IsValidCall (in_model w g) call → IsAnswered call.call result
turn_completes (Ok x) did wants never valid = tt
turn_completes {w = w} {g = g} {call = call} (Err e) did wants never valid = elim did.turn [
  | inl refused ↦ refuses (turn (in_model w g) call) refused.spec_is valid
  | inr (inl wanted) ↦ (wanted.memory, wants (ap Err wanted.memory))
  | inr (inr failed) ↦ absurd (never failed.count)
]

-- ---- the calls of a run

success : (m : CallResult (Value × State)) (old new : State) (answer : Answer) → Gives m old answer new → IsTrue (is_ok m)
    → IsTrue (is_success answer)
success (Ok p) old new answer gives valid = subst (λ a. IsTrue (is_success a)) (sym gives.0) valid
success (Err e) old new answer gives valid = absurd (cc)

turned_completes : (t : TraceStep) → Played t ⊎ Faulted t → IsComplete t
turned_completes t (inl played) valid = inl (success (turn t.before t.call) t.before t.after t.answer played valid)
turned_completes t (inr faulted) valid = inr faulted

pub run_completes : (calls : List FueledCall) (turns : List TraceStep) (k : ℕ) (old new : State) → Trace k old calls turns new
    → All IsComplete turns
run_completes = each_turn IsComplete turned_completes
