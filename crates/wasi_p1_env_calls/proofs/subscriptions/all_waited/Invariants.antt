use Rattle.std.proofs.Common.{true, length, ◌+◌, ◌*◌, ◌^◌, ◌<◌, ◌≡◌}
use Rattle.std.specs.Prelude.{All}
use Rattle.std.specs.FinSet.{contains}
use Rattle.wasi_p1_types.specs.Guest.{guest_slots}
use Rattle.wasi_p1_types.specs.Polling.{OfReading, all_waited}
use Rattle.wasi_p1_model.proofs.Judging.{Left, kept_with}
use Rattle.wasi_p1_env_calls.proofs.subscriptions.all_waited.Given as goal

-- with what is left they are all
abbrev pub invariant-loop-i : goal.invariant-loop-i
invariant-loop-i g l = record {
  next : l.subscriptions + 48 * l.i < 2 ^ 32;
  count : length l.all.items ≡ l.i;
  live : All (λ w. OfReading (λ file. contains (g.H.Host.live l.host) file ≡ true) w.what) l.all.items;
  left : Left l.holdings (guest_slots (g.H.Host.model l.host).held l.descriptors.slots) l.memory l.subscriptions l.count l.i
      (kept_with (g.H.Host.model l.host).held l.all.items)
      (all_waited l.holdings (guest_slots (g.H.Host.model l.host).held l.descriptors.slots) l.memory l.subscriptions l.count);
}
