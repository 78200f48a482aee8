use Rattle.wasi_p1_types.specs.Front.{with_fuel}
use Rattle.std.proofs.Common.{map, take, length, ◌+◌, ◌≤◌, ◌≡◌}
use Rattle.std.specs.Prelude.{IsTrue}
use Rattle.wasi_p1_types.specs.Guest.{State, state_of}
use Rattle.wasi_p1_model.specs.Reach.{Confined, StaysTouched}
use Rattle.wasi_p1_model.specs.Trace.{ios, Allows, GoOn}
use Rattle.wasi_p1_model.specs.CallTransition.{OthersStay}
use Rattle.wasi_p1_model.specs.InTurn.{SlotsOfRun}
use Rattle.wasi_p1_model.specs.Owners.{RunTraced}
use Rattle.wasi_p1_model.specs.Validity.{IsValidState}
use Rattle.wasi_p1_model.proofs.Runs.{SoFar}
use Rattle.wasi_p1_model.proofs.InTurn.{DoneSoFar}
use Rattle.wasi_p1.proofs.run.run_calls.Given as goal

abbrev pub invariant-loop-one : goal.invariant-loop-one
invariant-loop-one g l = record {
  size : length l.memory ≡ length l.fn.memory;
  ios : Allows (g.H.Host.faults l.fn.context.host) (g.H.Host.faults l.context.host) (ios l.answers.answers);
  goes : GoOn l.answers.answers;
  handles : OthersStay g.H.Host.live l.fn.context l.context;
  slots : SlotsOfRun g.H.Host l.fuel l.fn.context l.fn.memory l.calls.items l.context.slots;
  provenance : RunTraced l.fn.context.slots l.context.slots (g.H.Host.lookups l.fn.context.host)
      (g.H.Host.lookups l.context.host);
  run : IsTrue g.H.Host.modelled
      → SoFar (g.H.Host.faults l.fn.context.host) (g.H.Host.faults l.context.host)
      (state_of g.H.Host.model l.fn.context l.fn.memory)
      (take l.one-index (map (with_fuel l.fuel) l.calls.items)) l.answers.answers (state_of g.H.Host.model l.context l.memory)
      (g.H.Host.model l.context.host).touched;
  touched : IsTrue g.H.Host.modelled
      → StaysTouched (g.H.Host.model l.fn.context.host).touched (g.H.Host.model l.context.host).touched;
  confined : IsTrue g.H.Host.modelled → (start : State)
      → Confined start (state_of g.H.Host.model l.fn.context l.fn.memory) (g.H.Host.model l.fn.context.host).touched
      → Confined start (state_of g.H.Host.model l.context l.memory) (g.H.Host.model l.context.host).touched;
  valid : IsTrue g.H.Host.modelled → IsValidState (state_of g.H.Host.model l.fn.context l.fn.memory)
      → IsValidState (state_of g.H.Host.model l.context l.memory);
  done : DoneSoFar g.H.Host l.fuel l.fn.context l.fn.memory (take l.one-index l.calls.items) l.answers.answers l.context
      l.memory;
  later : (g.H.Host.faults l.fn.context.host).count ≤ (g.H.Host.faults l.context.host).count;
  most : (g.H.Host.faults l.context.host).most ≡ (g.H.Host.faults l.fn.context.host).most;
  count : length l.answers.answers ≡ l.one-index;
  room : length l.calls.items ≤ l.answers.spare + l.one-index;
}
