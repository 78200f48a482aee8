-- What each turn makes and grows, and what it counts of it.
use Rattle.std.proofs.Common.{◌≡◌, ◌⊎◌, inl, inr, true, false, refl, ap, sym, subst, Some, Ok, Err}
use Rattle.std.specs.Prelude.{IfOk}
use Rattle.std.proofs.lemmas.Result.{IfOk-at_ok}
use Rattle.wasi_guest.specs.declared.answer.Answer.{Answer}
use Rattle.wasi_guest.specs.declared.answer.Answer.TheVariants as answers
use Rattle.wasi_guest.specs.declared.answer.Value.{Value}
use Rattle.wasi_p1_types.specs.Front.{FueledCall}
use Rattle.wasi_p1_types.specs.Guest.{Guest, State}
use Rattle.wasi_p1_model.specs.QuotaLaws.{CountsUse, quota_of, used_of}
use Rattle.wasi_p1_types.specs.CallResult.{Program, CallResult, done, asking, spec_on, with_tree}
use Rattle.wasi_p1_model.specs.Calls.{call_spec, turn}
use Rattle.wasi_p1_model.specs.Trace.{Faulted, Gives, Played, TraceStep, answer_of, is_success}
use Rattle.wasi_p1_types.specs.Spending.{growth_of, makes}
use Rattle.wasi_p1_model.specs.Transition.{AfterFault, StepTaken, used_by}
use Rattle.wasi_p1_types.specs.declared.error.P1Error.{P1Error}
use Rattle.wasi_p1_types.specs.declared.error.P1Error.TheVariants.{Errno, Trap, Exit, Memory}
use Rattle.wasi_p1_model.proofs.Moving.{replied_by}
use Rattle.wasi_p1_model.proofs.QuotaParts.{SpendsWithin, Uses, counted_alone, nothing_done}
use Rattle.wasi_p1_model.proofs.QuotaSpecs.{spec_uses}

-- what a call does to the counts and the tree
abbrev pub TurnSpends : FueledCall → State → State → Type 0
TurnSpends call s s' =
    SpendsWithin (makes call.call) (growth_of s.tree (call_spec s.guest call)) s.guest s'.guest s.tree s'.tree

-- so does a specification that is answered
pub answered_spends : (s : State) (call : FueledCall) {p : Value × State} → turn s call ≡ Ok p → TurnSpends call s p.1
answered_spends s call {p} is = by (call_spec s.guest call) (spec_uses s.guest call) is
  where
    by : (m : CallResult (Program (Value × Guest))) → IfOk m (Uses (makes call.call) s.guest) → spec_on s.tree m ≡ Ok p
        → SpendsWithin (makes call.call) (growth_of s.tree m) s.guest p.1.guest s.tree p.1.tree
    by (Ok (done q)) uses is =
        let same : with_tree (q, s.tree) ≡ p = (cc) in
        subst (λ (r : Value × State). SpendsWithin (makes call.call) 0 s.guest r.1.guest s.tree r.1.tree) same (uses s.tree)
    by (Ok (asking r next)) uses is =
        let did = replied_by s.tree r next is in
        subst (SpendsWithin (makes call.call) (growth_of s.tree (Ok (asking r next))) s.guest p.1.guest s.tree) (sym did.tree)
        (IfOk-at_ok _ did.gives (uses s.tree did.reply did.is))
    by (Err e) uses is = absurd (cc)

-- the host failed: nothing was done, or counted; or it was counted, and maybe the specification's step was made
faulted_spends : (s s' : State) (call : FueledCall) → AfterFault (used_by s call) s s' (turn s call)
    → (s' ≡ s) ⊎ TurnSpends call s s'
faulted_spends s s' call (inl same) = inl same
faulted_spends s s' call (inr (inl counted)) =
    inr (subst (TurnSpends call s) (sym counted) (nothing_done _ _ s.guest s.tree))
faulted_spends s s' call (inr (inr step)) = inr (by (turn s call) refl step)
  where
    by : (m : CallResult (Value × State)) → turn s call ≡ m → StepTaken (used_by s call) s' m → TurnSpends call s s'
    by (Ok p) is step = subst (TurnSpends call s) (sym step) (counted_alone (answered_spends s call is))
    by (Err e) is step = absurd step

-- an answer that isn't a specification's value is no success
refused_not : (e : P1Error) {answer : Answer} → answer_of (Err e) ≡ Some answer → is_success answer ≡ false
refused_not (Errno e) is = let same : answers.Errno e ≡ _ = (cc) in ap is_success (sym same)
refused_not (Trap kind) is = let same : answers.Trap kind ≡ _ = (cc) in ap is_success (sym same)
refused_not (Exit status) is = let same : answers.Exit status ≡ _ = (cc) in ap is_success (sym same)
refused_not Memory is = absurd (cc)

-- A turn leaves its state, and isn't answered Ok; or it is answered so, or the host failed, and it did what a call does
pub data TurnEnds (t : TraceStep) : Type 0 where
  stays : is_success t.answer ≡ false → t.after ≡ t.before → TurnEnds t
  answered : is_success t.answer ≡ true → TurnSpends t.call t.before t.after → TurnEnds t
  failed : is_success t.answer ≡ false → Faulted t → TurnSpends t.call t.before t.after → TurnEnds t

pub turn_ends : (t : TraceStep) → Played t ⊎ Faulted t → TurnEnds t
turn_ends t (inl played) = by (turn t.before t.call) refl played
  where
    by : (m : CallResult (Value × State)) → turn t.before t.call ≡ m → Gives m t.before t.answer t.after → TurnEnds t
    by (Ok p) is (answer, new) = answered (ap is_success answer)
        (subst (TurnSpends t.call t.before) (sym new) (answered_spends t.before t.call is))
    by (Err e) is (answer, new) = stays (refused_not e answer) new
turn_ends t (inr faulted) = elim (faulted_spends t.before t.after t.call faulted.state) [
  | inl same ↦ stays (ap is_success faulted.io) same
  | inr spends ↦ failed (ap is_success faulted.io) faulted spends
]

-- what is counted
pub turn_counts : (t : TraceStep) → TurnEnds t → CountsUse t
turn_counts t (stays is same) = record { quota = ap quota_of same; used = rw is (inl (ap used_of same)) }
turn_counts t (answered is spends) = record { quota = spends.quota; used = rw is spends.used }
turn_counts t (failed is faulted spends) = record { quota = spends.quota; used = rw is (inr (faulted, spends.used)) }
