-- A run in which no turn is faulted is a function of its start and its calls.
use Rattle.std.proofs.Common.{◌≡◌, inl, inr, true, false, Bool, List, [], ◌∷◌, refl, sym, ◌∙◌, subst, arith, Option, Some, Ok, Err}
use Rattle.std.specs.Prelude.{MatchBool}
use Rattle.wasi_p1_types.specs.Guest.{State}
use Rattle.wasi_p1_types.specs.CallResult.{CallResult}
use Rattle.wasi_p1_model.specs.Calls.{turn}
use Rattle.wasi_p1_model.specs.Trace.{TraceStep, Trace, Gives, ends}
use Rattle.wasi_guest.specs.declared.answer.Answer.{Answer}
use Rattle.wasi_p1_types.specs.Front.{FueledCall}
use Rattle.wasi_guest.specs.declared.answer.Value.{Value}

-- what comes after a turn: nothing where its answer ends the run
abbrev pub Rest : List FueledCall → TraceStep → List TraceStep → State → Bool → Type 0
Rest calls t turns new b = MatchBool b ((turns ≡ []) × (new ≡ t.after)) (Trace 0 t.after calls turns new)

-- a run begins with the turn of its first call's specification
pub record FirstTurn (old : State) (call : FueledCall) (calls : List FueledCall) (t : TraceStep) (turns : List TraceStep)
    (new : State) : Type 0 where
  pub before : t.before ≡ old
  pub call_is : t.call ≡ call
  pub gives : Gives (turn old call) old t.answer t.after
  pub rest : Rest calls t turns new (ends t.answer)

pub first_turn : (old : State) (call : FueledCall) (calls : List FueledCall) (t : TraceStep) (turns : List TraceStep) (new : State)
    → Trace 0 old (call ∷ calls) (t ∷ turns) new → FirstTurn old call calls t turns new
first_turn old call calls t turns new (j, before, is, inl (played, same), rest) = record {
  before = before;
  call_is = is;
  gives = rw (← before, ← is) played;
  rest = rw same at rest;
}
first_turn old call calls t turns new (j, before, is, inr (faulted, none), rest) = absurd (omega arith)

-- ---- two runs

some_same : {a b : Answer} {o : Option Answer} → o ≡ Some a → o ≡ Some b → a ≡ b
some_same is is' = cc

given_same : {a b : Answer} {new new' : State} (call_spec : CallResult (Value × State)) (old : State) → Gives call_spec old a new
    → Gives call_spec old b new'
    → (a ≡ b) × (new ≡ new')
given_same (Ok p) old (is, after) (is', after') = (is ∙ sym is', after ∙ sym after')
given_same (Err e) old (is, after) (is', after') = (some_same is is', after ∙ sym after')

-- these calls have one run from a state
abbrev pub OneRun : State → List FueledCall → Type 0
OneRun old calls =
    (turns turns' : List TraceStep) (new new' : State) → Trace 0 old calls turns new → Trace 0 old calls turns' new'
    → (turns ≡ turns') × (new ≡ new')

rest_same : (calls : List FueledCall) (t : TraceStep) {turns turns' : List TraceStep} {new new' : State} (b : Bool)
    → OneRun t.after calls
    → Rest calls t turns new b → Rest calls t turns' new' b → (turns ≡ turns') × (new ≡ new')
rest_same calls t true one (done, last) (done', last') = (done ∙ sym done', last ∙ sym last')
rest_same calls t {turns} {turns'} {new} {new'} false one runs runs' = one turns turns' new new' runs runs'

first_same : {old : State} {call : FueledCall} {calls : List FueledCall} {t t' : TraceStep} {turns turns' : List TraceStep}
    {new new' : State}
    → OneRun t.after calls → FirstTurn old call calls t turns new → FirstTurn old call calls t' turns' new'
    → (t ∷ turns ≡ t' ∷ turns') × (new ≡ new')
first_same {old} {call} {calls} {t} {t'} {turns} {turns'} {new} {new'} one first first' =
    let both = given_same (turn old call) old first.gives first'.gives in
    let same : t ≡ t' = λ i. record {
      before = (first.before ∙ sym first'.before) i;
      call = (first.call_is ∙ sym first'.call_is) i;
      answer = both.0 i;
      after = both.1 i;
    } in
    let rest' = subst (λ (u : TraceStep). Rest calls u turns' new' (ends u.answer)) (sym same) first'.rest in
    let rest = rest_same calls t (ends t.answer) one first.rest rest' in
    (λ i. same i ∷ rest.0 i, rest.1)

pub one_run : (calls : List FueledCall) (old : State) → OneRun old calls
one_run [] old [] [] new new' run run' = (refl, run ∙ sym run')
one_run [] old [] (t' ∷ turns') new new' run run' = absurd run'
one_run [] old (t ∷ turns) turns' new new' run run' = absurd run
one_run (call ∷ calls) old [] turns' new new' run run' = absurd run
one_run (call ∷ calls) old (t ∷ turns) [] new new' run run' = absurd run'
one_run (call ∷ calls) old (t ∷ turns) (t' ∷ turns') new new' run run' =
    first_same (one_run calls t.after) (first_turn old call calls t turns new run)
    (first_turn old call calls t' turns' new' run')
