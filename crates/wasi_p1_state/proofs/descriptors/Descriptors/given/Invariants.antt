use Rattle.std.proofs.Common.{take, ◌≡◌}
use Rattle.wasi_p1_types.specs.Slots.{first_slots}
use Rattle.wasi_p1_state.proofs.descriptors.Descriptors.given.Given as goal

-- the directories so far stand after the streams
abbrev pub invariant-loop-place : goal.invariant-loop-place
invariant-loop-place l = record {
  slots : l.descriptors.slots ≡ first_slots (take l.place l.preopens);
  max : l.descriptors.max ≡ l.max;
}
