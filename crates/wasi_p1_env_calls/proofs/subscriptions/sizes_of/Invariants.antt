use Rattle.std.proofs.Common.{◌≡◌, ◌≤◌}
use Rattle.std.specs.Prelude.{IsTrue}
use Rattle.wasi_p1_model.proofs.Sizing.{SizedSo}
use Rattle.wasi_p1_env_calls.proofs.subscriptions.sizes_of.Given as goal

-- the sizes so far, with those that are left
abbrev pub invariant-loop-item : goal.invariant-loop-item
invariant-loop-item g l = record {
  later : (g.H.Host.faults l.fn.host).count ≤ (g.H.Host.faults l.host).count;
  most : (g.H.Host.faults l.host).most ≡ (g.H.Host.faults l.fn.host).most;
  live : g.H.Host.live l.host ≡ g.H.Host.live l.fn.host;
  logged : g.H.Host.lookups l.host ≡ g.H.Host.lookups l.fn.host;
  modelled : IsTrue g.H.Host.modelled → SizedSo (g.H.Host.live l.fn.host) (g.H.Host.model l.fn.host) (g.H.Host.model l.host) l.waited
      l.item-index l.sizes.items;
}
