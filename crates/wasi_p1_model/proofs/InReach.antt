-- What the calls of a run answer rests on what is in reach.
use Rattle.std.proofs.Common.{ℕ, ◌≡◌, inl, inr, List, sym, subst, arith}
use Rattle.std.specs.Prelude.{Contains}
use Rattle.wasi_host.specs.HostLaws.{FaultCount, Rose}
use Rattle.wasi_host.specs.Tree.{Nodes}
use Rattle.wasi_host.specs.ValidTree.{root, held}
use Rattle.wasi_guest.specs.declared.answer.Answer.{Answer}
use Rattle.wasi_p1_types.specs.Guest.{Guest, State, open_nodes}
use Rattle.wasi_p1_types.specs.Front.{FueledCall}
use Rattle.wasi_p1_model.specs.Reach.{Inside}
use Rattle.wasi_p1_model.specs.Trace.{TraceStep, Trace, Allows, RefinesTrace, answers_of}
use Rattle.wasi_p1_model.specs.StatesAgree.{Alike, Agrees, ReachIsOne, Noninterferes}
use Rattle.wasi_p1_model.proofs.RunsAlike.{runs_alike}

pub alike_in_reach : {s s' : State} → Agrees s s' → Alike (Inside s) s s'
alike_in_reach {s} agrees = record {
  guest = agrees.guest;
  trees = agrees.trees;
  closed = record { under = λ d n name above has. held d n name above has };
  slots = λ n has. root n has;
}

-- ---- the same is in reach in both

to_other : {s s' : State} → Agrees s s' → (n : ℕ) → Inside s n → Inside s' n
to_other agrees n (root m has) = root n (subst (λ (g : Guest). Contains (open_nodes g.slots) n) agrees.guest has)
to_other agrees n (held d m name above has) =
    held d n name (to_other agrees d above) (rw (agrees.trees.nodes d above) at has)

from_other : {s s' : State} → Agrees s s' → (n : ℕ) → Inside s' n → Inside s n
from_other agrees n (root m has) =
    root n (subst (λ (g : Guest). Contains (open_nodes g.slots) n) (sym agrees.guest) has)
from_other agrees n (held d m name above has) =
    let here = from_other agrees d above in held d n name here (rw (← agrees.trees.nodes d here) at has)

pub reach_is_one : ReachIsOne
reach_is_one s s' agrees n = (to_other agrees n, from_other agrees n)

-- ---- a run

pub runs_same : (old new : State) (calls : List FueledCall) (turns : List TraceStep) → Trace 0 old calls turns new
    → Noninterferes old calls (answers_of turns) new
runs_same old new calls turns run other agrees =
    let alike = runs_alike calls new turns (alike_in_reach agrees) run in
    record {
      turns = alike.turns';
      last = alike.new';
      run = alike.run;
      answers_are = sym alike.same;
      guest = alike.alike.guest;
      trees = alike.alike.trees;
    }

-- no turn is faulted where the count didn't rise
none_faulted : (before now : FaultCount) (k : ℕ) → Allows before now k → (Rose before now → ⊥) → k ≡ 0
none_faulted before now k (inl within) never = grind arith
none_faulted before now k (inr ended) never = absurd (never (omega arith))

pub did_same : {before now : FaultCount} {old new : State} {calls : List FueledCall} {answers : List Answer} {touched : Nodes}
    → RefinesTrace before now old calls answers new touched → (Rose before now → ⊥) → Noninterferes old calls answers new
did_same {before} {now} {old} {new} {calls} did never =
    let none = none_faulted before now did.faults did.allowed never in
    rw did.answers_are (runs_same old new calls did.turns (rw none at did.run))
