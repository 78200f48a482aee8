-- A run keeps to the quota of its context.
use Rattle.std.proofs.Common.{ℕ, List, inl, inr, sym, subst, Result}
use Rattle.wasi_guest.specs.declared.answer.Answer.{Answer}
use Rattle.wasi_guest.specs.declared.answer.Value.{Value}
use Rattle.wasi_host.specs.HostLaws.{HostModel, FaultCount}
use Rattle.wasi_host.specs.Tree.{Nodes}
use Rattle.wasi_p1.specs.RunQuotas.{KeepsToQuotas, KeptToQuotas}
use Rattle.wasi_p1_model.specs.CallTransition.{Turns, in_model}
use Rattle.wasi_p1_types.specs.Front.{FueledCall}
use Rattle.wasi_p1_types.specs.Guest.{Guest, State}
use Rattle.wasi_p1_model.specs.QuotaLaws.{WritesAsOpened}
use Rattle.wasi_p1_model.specs.Trace.{RefinesTrace, StoodAt}
use Rattle.wasi_p1_types.specs.declared.error.P1Error.{P1Error}
use Rattle.wasi_p1_model.proofs.Moving.{turn_moves}
use Rattle.wasi_p1_model.proofs.QuotaRuns.{run_counts, run_opened, run_within}
use Rattle.wasi_p1_model.proofs.QuotaTurns.{answered_spends}

-- a call leaves files that are written as they were opened
pub turn_writes : {rose : Type 0} {w v : HostModel} {g g' : Guest} {call : FueledCall} {r : Result Value P1Error}
    → Turns rose w v g g' call r → WritesAsOpened g → WritesAsOpened g'
turn_writes {rose} {w} {v} {g} {g'} {call} {r} takes all = elim (turn_moves rose _ call r takes.turn) [
  | inl given ↦ (answered_spends (in_model w g) call given.1).opened all
  | inr still ↦ subst WritesAsOpened (sym still.guest) all
]

-- so a run keeps to the quota
pub did_keep : {before now : FaultCount} {old new : State} {calls : List FueledCall} {answers : List Answer} {touched : Nodes}
    → RefinesTrace before now old calls answers new touched → WritesAsOpened old.guest → KeepsToQuotas old calls answers new
did_keep {old = old} {new = new} {calls = calls} did all = record {
  turns = did.turns;
  faults = did.faults;
  run = did.run;
  answers_are = did.answers_are;
  within = run_within did.faults old new calls did.turns did.run all;
  counts = run_counts did.faults old new calls did.turns did.run;
  opened = run_opened did.faults old new calls did.turns did.run all;
}

pub stood_keep : {before now : FaultCount} {old new : State} {calls : List FueledCall} {n : ℕ} {touched : Nodes}
    → StoodAt before now old calls n new touched → WritesAsOpened old.guest → KeptToQuotas old calls n new
stood_keep stood all = record { answers = stood.answers; count = stood.count; keeps = did_keep stood.run all }
