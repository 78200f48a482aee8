-- When two states are the same to a guest.
use Rattle.std.specs.Prelude.{ℕ, ◌≡◌, ◌↔◌, List, Contains, Ok, Err}
use Rattle.wasi_host.specs.Agree.{AgreeOn, IsClosed, OrMade}
use Rattle.wasi_p1_types.specs.Guest.{State, open_nodes}
use Rattle.wasi_p1_types.specs.CallResult.{CallResult}
use Rattle.wasi_p1_model.specs.Calls.{turn}
use Rattle.wasi_p1_model.specs.Reach.{Inside, InReach}
use Rattle.wasi_p1_model.specs.Trace.{TraceStep, Trace, answers_of}
use Rattle.wasi_p1_types.specs.Front.{FueledCall}
use Rattle.wasi_guest.specs.declared.answer.Answer.{Answer}
use Rattle.wasi_guest.specs.declared.answer.Value.{Value}

-- Two states that differ only where the guest can't come to: all but the tree is equal, and the trees have the same
-- next number, the same limits, and equal nodes on what is in reach in the first
pub record Agrees (s s' : State) : Type 0 where
  pub guest : s.guest ≡ s'.guest
  pub trees : AgreeOn (Inside s) s.tree s'.tree

-- the same is in reach in both
abbrev pub ReachIsOne : Type 0
ReachIsOne = (s s' : State) → Agrees s s' → (n : ℕ) → Inside s n ↔ Inside s' n

-- two states with the same guest, whose trees are equal on a closed set that has its descriptors' nodes
pub record Alike (Seen : ℕ → Type 0) (s s' : State) : Type 0 where
  pub guest : s.guest ≡ s'.guest
  pub trees : AgreeOn Seen s.tree s'.tree
  pub closed : IsClosed Seen s.tree
  pub slots : (n : ℕ) → Contains (open_nodes s.guest.slots) n → Seen n

-- two specifications with the same answer, and states after them that are alike
abbrev pub AnswerAlike : (ℕ → Type 0) → State → CallResult (Value × State) → CallResult (Value × State) → Type 0
AnswerAlike Seen s (Ok p) (Ok q) = (p.0 ≡ q.0) × Alike (OrMade Seen s.tree p.1.tree) p.1 q.1
AnswerAlike Seen s (Err e) (Err f) = e ≡ f
AnswerAlike Seen s (Ok p) (Err f) = ⊥
AnswerAlike Seen s (Err e) (Ok q) = ⊥

-- what a call answers, and does to what is in its reach, rests on the guest and on what is in reach
abbrev pub TurnsAgree : Type 0
TurnsAgree =
    (s s' : State) (call : FueledCall) → Agrees s s' → AnswerAlike (Inside s) s (turn s call) (turn s' call)

-- From another state the run of the calls with no faulted turn gives these answers, and ends with the same guest, its
-- memory and its outputs among it, and with a tree that has the same next number, the same limits, and equal nodes on
-- what was in reach at the start or was made
pub record RunsSame (old other : State) (calls : List FueledCall) (answers : List Answer) (new : State) : Type 0 where
  pub turns : List TraceStep
  pub last : State
  pub run : Trace 0 other calls turns last
  pub answers_are : answers ≡ answers_of turns
  pub guest : new.guest ≡ last.guest
  pub trees : AgreeOn (InReach old new) new.tree last.tree

-- from whatever state that agrees with the first
abbrev pub Noninterferes : State → List FueledCall → List Answer → State → Type 0
Noninterferes old calls answers new = (other : State) → Agrees old other → RunsSame old other calls answers new

-- what the calls of a run answer, and do to what is in reach, rests on the guest and on what is in reach at the start
abbrev pub RunsAgree : Type 0
RunsAgree =
    (old new : State) (calls : List FueledCall) (turns : List TraceStep) → Trace 0 old calls turns new
    → Noninterferes old calls (answers_of turns) new
