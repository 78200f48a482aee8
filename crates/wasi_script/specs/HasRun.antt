-- What came of the calls of a script.
use Rattle.std.specs.Prelude.{◌≡◌, ◌≤◌, List, length, map, true, All}
use Rattle.std.specs.FinSet.{contains, from_list}
use Rattle.std.specs.List.Sorted.{IsStrictlySortedBy}
use Rattle.std.specs.Ordering.{nat_cmp}
use Rattle.wasi_host.specs.Tree.{Nodes}
use Rattle.wasi_tree.specs.MemState.{MemState}
use Rattle.wasi_p1_types.specs.Guest.{State, state_of}
use Rattle.wasi_p1_model.specs.Reach.{Confined}
use Rattle.wasi_p1_model.specs.Trace.{TraceStep, Trace, answers_of, ios, named}
use Rattle.wasi_guest.specs.declared.answer.Answer.{Answer}
use Rattle.wasi_form.specs.Plan.{Plan}
use Rattle.wasi_script.specs.Headline.{fueled_calls}
use Rattle.wasi_setup.specs.ReportAfter.{bytes_shown}
use Rattle.wasi_setup.specs.Start.{seen_by, start, model_behind}
use Rattle.wasi_script.specs.declared.run.RunEnd.{RunEnd}
use Rattle.wasi_script.specs.declared.run.Ran.{Ran}

-- A run of a plan's calls from its start came to a state with these answers, and touched these nodes. At most as many
-- turns are faulted, and at most as many answers are `io`, as the plan lists faults. Each node at which a path of a call
-- answered Ok ended was touched, and each touched node is reached from a directory that the guest was given, or was made.
pub record HasRun (plan : Plan) (last : State) (answers : List Answer) (touched : Nodes) : Type 0 where
  pub turns : List TraceStep
  pub run : Trace (length plan.faults) (start plan) (fueled_calls plan) turns last
  pub answers_are : answers ≡ answers_of turns
  pub few : ios answers ≤ length plan.faults
  pub ends : All (λ n. contains touched n ≡ true) (named turns)
  pub confined : Confined (start plan) last touched

-- a plan whose calls were made, over a tree that is seen so; what is to be shown of its memory is within it
pub record IsRanOf {T : Type 0} (plan : Plan) (seen : T → MemState) (ran : Ran T) : Type 0 where
  pub run : HasRun plan (state_of model_behind (seen_by seen ran.context) ran.memory) ran.answers.answers
      (seen ran.context.host.inner).touched
  pub size : length ran.memory ≡ plan.size
  pub show : ran.show.items ≡ plan.show
  pub calls : ran.calls.items ≡ plan.calls

-- what is told of it: its answers, the ranges to be shown, what was written out, and its touched nodes, rising; the host
-- is as it was left
pub record IsToldOf {T : Type 0} (seen : T → MemState) (ran : Ran T) (end : RunEnd T) : Type 0 where
  pub answers : end.outcome.answers.answers ≡ ran.answers.answers
  pub shown : map (λ bytes. bytes.items) end.outcome.shown.items ≡ map (bytes_shown ran.memory) ran.show.items
  pub stdout : end.outcome.stdout.items ≡ ran.context.holdings.stdout
  pub stderr : end.outcome.stderr.items ≡ ran.context.holdings.stderr
  pub touched : from_list end.outcome.touched.items ≡ (seen ran.context.host.inner).touched
  pub rising : IsStrictlySortedBy nat_cmp end.outcome.touched.items
  pub host : end.host ≡ ran.context.host
