use Rattle.std.proofs.Common.{◌+◌, ◌-◌, ◌*◌, ◌^◌, ◌<◌, ◌≤◌}
use Rattle.wasi_p1_types.specs.Guest.{guest_slots}
use Rattle.wasi_p1_types.specs.Polling.{judged_in, judged_with}
use Rattle.wasi_p1_model.proofs.Judging.{Left}
use Rattle.wasi_p1_env_calls.proofs.subscriptions.judged_at.Given as goal

-- with what is left it is what all come to
abbrev pub invariant-loop-i : goal.invariant-loop-i
invariant-loop-i g l = record {
  next : l.subscriptions + 48 * l.i < 2 ^ 32;
  few : l.judged.files ≤ l.i;
  early : l.judged.earliest ≤ 2 ^ 64 - 1;
  left : Left l.holdings (guest_slots (g.H.Host.model l.host).held l.descriptors.slots) l.memory l.subscriptions l.count l.i
      (judged_with l.judged)
      (judged_in l.holdings (guest_slots (g.H.Host.model l.host).held l.descriptors.slots) l.memory l.subscriptions l.count);
}
