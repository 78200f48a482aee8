-- No call is answered an error number that isn't listed.
use Rattle.std.proofs.Common.{ℕ, ◌≡◌, ◌⊎◌, inl, inr, List, refl, sym, subst, Option, Some, Result, Ok, Err}
use Rattle.std.specs.Prelude.{All, IfSome}
use Rattle.std.proofs.lemmas.List.Elements.{All-map}
use Rattle.wasi_host.specs.HostLaws.{FaultCount, HostModel}
use Rattle.wasi_host.specs.Tree.{Nodes, Tree}
use Rattle.wasi_host.specs.declared.errors.ErrorCode.{ErrorCode}
use Rattle.wasi_guest.specs.declared.answer.Answer.{Answer}
use Rattle.wasi_guest.specs.declared.answer.Value.{Value}
use Rattle.wasi_guest.specs.declared.call.Call.{Call}
use Rattle.wasi_p1_model.specs.CallTransition.{Turns, in_model}
use Rattle.wasi_p1_types.specs.ErrorNumbers.{MayCome}
use Rattle.wasi_p1_types.specs.Front.{FueledCall}
use Rattle.wasi_p1_types.specs.Guest.{Guest, State}
use Rattle.wasi_p1_types.specs.Request.{Reply, after, reply_of}
use Rattle.wasi_p1_types.specs.CallResult.{CallResult, Program, asking, done, spec_on}
use Rattle.wasi_p1_model.specs.Calls.{call_spec, turn}
use Rattle.wasi_p1_model.specs.Trace.{RefinesTrace, Faulted, Gives, Played, Trace, TraceStep, answer_of, answers_of}
use Rattle.wasi_p1_types.specs.declared.error.P1Error.{P1Error}
use Rattle.wasi_p1_types.specs.declared.error.P1Error.TheVariants.{Errno, Trap, Exit, Memory}
use Rattle.wasi_p1_model.proofs.Alike.{over, replied}
use Rattle.wasi_p1_types.proofs.Codes.{Knows, reply_known}
use Rattle.wasi_p1_model.proofs.Moving.{each_turn}
use Rattle.wasi_p1_model.proofs.LocalCalls.{Ends, IsLocal}
use Rattle.wasi_p1_model.proofs.Locality.{spec_near}
use Rattle.wasi_p1_types.proofs.Wanting.{IsRefusal, Never}

-- ---- of a specification over a tree

over_never : (t : Tree) (m : CallResult (Value × Guest)) → Never m → Never (over t m)
over_never t (Ok p) never = tt
over_never t (Err e) never = never

ends_never : (undone : Type 0) (m : CallResult (Value × Guest)) → Ends undone m → Never m
ends_never undone (Ok p) ends = tt
ends_never undone (Err e) ends = ends.0

spec_never : (g : Guest) (call : Call) (t : Tree) (m : CallResult (Program (Value × Guest))) → IsLocal g call m
    → Never (spec_on t m)
spec_never g call t (Ok (done p)) near = tt
spec_never g call t (Ok (asking r next)) near = by (reply_of t r) refl (reply_known t r)
  where
    by : (a : Result (Reply r) ErrorCode) → reply_of t r ≡ a → Knows a → Never (replied t r next a)
    by (Ok reply) is known = over_never (after t r) (next reply) (ends_never (after t r ≡ t) (next reply) (near.ends t reply is))
    by (Err code) is known = known
spec_never g call t (Err e) near = near

turn_never : (s : State) (call : FueledCall) → Never (turn s call)
turn_never s call = spec_never s.guest call.call s.tree (call_spec s.guest call) (spec_near s.guest call)

-- ---- of an answer

refusal_comes : (e : P1Error) → IsRefusal e → IfSome (answer_of (Err e)) MayCome
refusal_comes (Errno number) refuses = refuses
refusal_comes (Trap kind) refuses = tt
refusal_comes (Exit status) refuses = tt
refusal_comes Memory refuses = tt

pub turn_errnos : {rose : Type 0} {w v : HostModel} {g g' : Guest} {call : FueledCall} (result : Result Value P1Error)
    → Turns rose w v g g' call result → IfSome (answer_of result) MayCome
turn_errnos (Ok x) did = tt
turn_errnos {w = w} {g = g} {call = call} (Err e) did = elim did.turn [
  | inl refused ↦ refusal_comes e (subst Never refused.spec_is (turn_never (in_model w g) call))
  | inr (inl wanted) ↦ subst (λ e. IfSome (answer_of (Err e)) MayCome) (sym wanted.memory) tt
  | inr (inr failed) ↦ subst (λ e. IfSome (answer_of (Err e)) MayCome) (sym failed.io) refl
]

-- ---- the calls of a run

some_comes : {a : Answer} {o : Option Answer} → o ≡ Some a → IfSome o MayCome → MayCome a
some_comes is comes = subst (λ o. IfSome o MayCome) is comes

gives_comes : (m : CallResult (Value × State)) (old new : State) (a : Answer) → Gives m old a new → Never m → MayCome a
gives_comes (Ok p) old new a gives never = subst MayCome (sym gives.0) tt
gives_comes (Err e) old new a gives never = some_comes gives.0 (refusal_comes e never)

turned_comes : (t : TraceStep) → Played t ⊎ Faulted t → MayCome t.answer
turned_comes t (inl played) = gives_comes (turn t.before t.call) t.before t.after t.answer played (turn_never t.before t.call)
turned_comes t (inr faulted) = subst MayCome (sym faulted.io) refl

pub run_errnos : (calls : List FueledCall) (turns : List TraceStep) (k : ℕ) (old new : State) → Trace k old calls turns new
    → All MayCome (answers_of turns)
run_errnos calls turns k old new run =
    All-map MayCome (λ (t : TraceStep). t.answer) turns (each_turn (λ t. MayCome t.answer) turned_comes calls turns k old new run)

pub did_errnos : {before now : FaultCount} {old new : State} {calls : List FueledCall} {answers : List Answer} {touched : Nodes}
    → RefinesTrace before now old calls answers new touched → All MayCome answers
did_errnos {old = old} {new = new} {calls = calls} did =
    subst (All MayCome) (sym did.answers_are) (run_errnos calls did.turns did.faults old new did.run)
