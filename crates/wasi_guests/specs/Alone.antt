-- What a guest does alone.
use Rattle.std.specs.Prelude.{ℕ, ◌-◌, ◌==◌, List, [], map, take, count_by, slice_get, Option, Some, None}
use Rattle.std.specs.FinSet.{empty}
use Rattle.wasi_guest.specs.Services.{handed}
use Rattle.wasi_guest.specs.declared.answer.Answer.{Answer}
use Rattle.wasi_host.specs.Tree.{Tree, next_of}
use Rattle.wasi_form.specs.Plan.{planned_preopen}
use Rattle.wasi_setup.specs.Start.{begun}
use Rattle.wasi_p1_types.specs.Front.{FueledCall, with_fuel}
use Rattle.wasi_p1_types.specs.Guest.{State}
use Rattle.wasi_p1_model.specs.Trace.{TraceStep, Trace, answers_of}
use Rattle.wasi_guests.specs.declared.plan.GuestEnd.{GuestEnd}
use Rattle.wasi_guests.specs.declared.plan.GuestPlan.{GuestPlan}

-- a guest as it begins: its state, over the tree of the start, and its calls in order
pub record Starting : Type 0 where
  pub state : State
  pub calls : List FueledCall

-- turns, and the state after them
pub record AloneRun : Type 0 where
  pub turns : List TraceStep
  pub last : State

-- the run, without faults, of the first calls of a guest, so many of them, from its own start
abbrev pub IsAlone : Starting → ℕ → AloneRun → Type 0
IsAlone g t run = Trace 0 g.state (take t g.calls) run.turns run.last

-- the turns of a guest, by its place among others; none past the last
abbrev pub turns_in : Option AloneRun → List TraceStep
turns_in None = []
turns_in (Some run) = run.turns

abbrev pub turns_at : List AloneRun → ℕ → List TraceStep
turns_at alone guest = turns_in (slice_get alone guest)

-- how many nodes a run made over a tree
abbrev pub made_by : Tree → AloneRun → ℕ
made_by start run = next_of run.last.tree - next_of start

-- what a guest came to
pub record End : Type 0 where
  pub answers : List Answer
  pub memory : List ℕ
  pub stdout : List ℕ
  pub stderr : List ℕ

-- by its run alone
abbrev pub end_alone : AloneRun → End
end_alone run = record {
  answers = answers_of run.turns;
  memory = run.last.guest.memory;
  stdout = run.last.guest.holdings.stdout;
  stderr = run.last.guest.holdings.stderr;
}

-- how many turns a guest has in a schedule
abbrev pub turns_of : ℕ → List ℕ → ℕ
turns_of guest schedule = count_by (λ i. i == guest) schedule

-- the start of a guest over a tree, on which no step has worked then
abbrev pub starting : Tree → GuestPlan → Starting
starting t plan = record {
  state = begun (record t { worked = empty }) (map planned_preopen plan.preopens.items) (handed plan.services) plan.quota
      plan.table plan.memory;
  calls = map (with_fuel plan.fuel) plan.calls.items;
}

abbrev pub ended : GuestEnd → End
ended e =
    record { answers = e.answers.answers; memory = e.memory; stdout = e.stdout.items; stderr = e.stderr.items }
