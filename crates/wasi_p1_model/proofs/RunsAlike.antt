-- A run rests on the guest and on what is in its reach.
use Rattle.std.proofs.Common.{ℕ, ◌≤◌, ◌≡◌, inl, true, false, Bool, List, [], ◌∷◌, refl, ap, sym, ◌∙◌, subst, arith, Some, Ok, Err}
use Rattle.wasi_host.specs.Agree.{OrMade}
use Rattle.wasi_host.specs.Tree.{next_of}
use Rattle.wasi_p1_types.specs.Guest.{State}
use Rattle.wasi_p1_types.specs.CallResult.{CallResult}
use Rattle.wasi_p1_model.specs.Calls.{call_spec, turn}
use Rattle.wasi_p1_model.specs.StatesAgree.{Alike, AnswerAlike}
use Rattle.wasi_p1_model.specs.Trace.{TraceStep, Trace, Gives, ends, answer_of, answers_of}
use Rattle.wasi_guest.specs.declared.answer.Answer.{Answer}
use Rattle.wasi_guest.specs.declared.answer.Answer.TheVariants as answers
use Rattle.wasi_p1_types.specs.Front.{FueledCall}
use Rattle.wasi_guest.specs.declared.answer.Value.{Value}
use Rattle.wasi_host.proofs.Agreeing.{none_made, once, twice}
use Rattle.wasi_p1_model.proofs.Alike.{turn_alike}
use Rattle.wasi_p1_model.proofs.Confining.{spec_grows}
use Rattle.wasi_p1_model.proofs.RunLaws.{Rest, FirstTurn, first_turn}

-- the same set, said in another way
alike_as : {Seen : ℕ → Type 0} {s s' : State} (Seen' : ℕ → Type 0) → ((n : ℕ) → Seen n → Seen' n)
    → ((n : ℕ) → Seen' n → Seen n)
    → Alike Seen s s' → Alike Seen' s s'
alike_as Seen' to from alike = record {
  guest = alike.guest;
  trees = record {
    nodes = λ n has. alike.trees.nodes n (from n has);
    next = alike.trees.next;
    limits = alike.trees.limits;
  };
  closed = record { under = λ d n name has is. to n (alike.closed.under d n name (from d has) is) };
  slots = λ n has. to n (alike.slots n has);
}

-- what holds after calls that began in states that are alike
pub record AlikeAfter (Seen : ℕ → Type 0) (s mid mid' : State) : Type 0 where
  pub alike : Alike (OrMade Seen s.tree mid.tree) mid mid'
  pub grows : next_of s.tree ≤ next_of mid.tree

alike_still : {Seen : ℕ → Type 0} {s s' : State} (mid : State) → mid ≡ s → Alike Seen s s' → AlikeAfter Seen s mid s'
alike_still {Seen} {s} {s'} mid same alike = subst (λ (z : State). AlikeAfter Seen s z s') (sym same) (record {
  alike = alike_as (OrMade Seen s.tree s.tree) (λ n has. inl has) (λ n has. none_made Seen has) alike;
  grows = omega arith;
})

-- the calls have the same answers from a state that is alike, and the states after them are alike
pub record RunAlike (Seen : ℕ → Type 0) (old old' : State) (calls : List FueledCall) (turns : List TraceStep)
    (new : State) : Type 0 where
  pub turns' : List TraceStep
  pub new' : State
  pub run : Trace 0 old' calls turns' new'
  pub same : answers_of turns' ≡ answers_of turns
  pub alike : Alike (OrMade Seen old.tree new.tree) new new'
  pub grows : next_of old.tree ≤ next_of new.tree

-- a turn over a state that is alike
pub record TurnAlike (Seen : ℕ → Type 0) (s s' mid : State) (answer : Answer)
    (call_spec' : CallResult (Value × State)) : Type 0 where
  pub mid' : State
  pub gives : Gives call_spec' s' answer mid'
  pub after : AlikeAfter Seen s mid mid'

gives_alike : {Seen : ℕ → Type 0} {s s' mid : State} {answer : Answer} (m m' : CallResult (Value × State)) → Alike Seen s s'
    → AnswerAlike Seen s m m'
    → ((p : Value × State) → m ≡ Ok p → next_of s.tree ≤ next_of p.1.tree) → Gives m s answer mid
    → TurnAlike Seen s s' mid answer m'
gives_alike {Seen} {s} (Ok p) (Ok q) start both grows (is, new) = record {
  mid' = q.1;
  gives = (is ∙ ap (λ (x : Value). answers.Ok x) both.0, refl);
  after = subst (λ (z : State). AlikeAfter Seen s z q.1) (sym new) (record { alike = both.1; grows = grows p refl });
}
gives_alike {s' = s'} {mid = mid} {answer = answer} (Err e) (Err f) start both grows (is, new) = record {
  mid' = s';
  gives = (subst (λ x. answer_of (Err x) ≡ Some answer) both is, refl);
  after = alike_still mid new start;
}
gives_alike (Ok p) (Err f) start both grows given = absurd both
gives_alike (Err e) (Ok q) start both grows given = absurd both

-- the turn of an alike state, with this answer
abbrev at : State → FueledCall → Answer → State → TraceStep
at s call answer mid = record { before = s; call = call; answer = answer; after = mid }

-- these calls, from states that are alike
abbrev RunsAlike : List FueledCall → State → List TraceStep → State → Type 1
RunsAlike calls s turns new =
    (Seen : ℕ → Type 0) (s' : State) → Alike Seen s s' → Trace 0 s calls turns new → RunAlike Seen s s' calls turns new

step : {Seen : ℕ → Type 0} {old old' new : State} {calls : List FueledCall} {t : TraceStep} {turns : List TraceStep} (call : FueledCall)
    (b : Bool) → ends t.answer ≡ b
    → RunsAlike calls t.after turns new → TurnAlike Seen old old' t.after t.answer (turn old' call)
    → Rest calls t turns new b
    → RunAlike Seen old old' (call ∷ calls) (t ∷ turns) new
step {Seen} {old} {old'} {new} {calls} {t} {turns} call true is further one (done, last) =
    let after = subst (λ (z : State). AlikeAfter Seen old z one.mid') (sym last) one.after in record {
      turns' = at old' call t.answer one.mid' ∷ [];
      new' = one.mid';
      run = (0, refl, refl, inl (one.gives, refl), rw is (refl, refl));
      same = rw done refl;
      alike = after.alike;
      grows = after.grows;
    }
step {Seen} {old} {old'} {new} {calls} {t} {turns} call false is further one on =
    let rest = further (OrMade Seen old.tree t.after.tree) one.mid' one.after.alike on in record {
      turns' = at old' call t.answer one.mid' ∷ rest.turns';
      new' = rest.new';
      run = (0, refl, refl, inl (one.gives, refl), rw is rest.run);
      same = ap (λ l. t.answer ∷ l) rest.same;
      alike =
          alike_as (OrMade Seen old.tree new.tree) (once Seen old.tree t.after.tree new.tree one.after.grows rest.grows)
          (twice Seen old.tree t.after.tree new.tree) rest.alike;
      grows = let first = one.after.grows in let second = rest.grows in omega arith;
    }

first_alike : {Seen : ℕ → Type 0} {old old' new : State} {call : FueledCall} {calls : List FueledCall} {t : TraceStep}
    {turns : List TraceStep}
    → RunsAlike calls t.after turns new → Alike Seen old old' → FirstTurn old call calls t turns new
    → RunAlike Seen old old' (call ∷ calls) (t ∷ turns) new
first_alike {Seen} {old} {old'} {new} {call} {calls} {t} further alike first =
    let one = gives_alike (turn old call) (turn old' call) alike (turn_alike alike call)
    (λ p is. spec_grows old.tree (call_spec old.guest call) p is) first.gives in
    step call (ends t.answer) refl further one first.rest

pub runs_alike : (calls : List FueledCall) {Seen : ℕ → Type 0} {old old' : State} (new : State) (turns : List TraceStep)
    → Alike Seen old old'
    → Trace 0 old calls turns new → RunAlike Seen old old' calls turns new
runs_alike [] {old' = old'} new [] alike run =
    let after = alike_still new run alike in
    record { turns' = []; new' = old'; run = refl; same = refl; alike = after.alike; grows = after.grows }
runs_alike [] new (t ∷ turns) alike run = absurd run
runs_alike (call ∷ calls) new [] alike run = absurd run
runs_alike (call ∷ calls) {Seen} {old} {old'} new (t ∷ turns) alike run =
    first_alike (λ Seen' s' start on. runs_alike calls new turns start on) alike
    (first_turn old call calls t turns new run)
