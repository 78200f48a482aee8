use Rattle.std.proofs.Common.{◌≡◌, vec_len, IsTrue}
use Rattle.wasi_host.specs.HostLaws.{Handles}
use Rattle.wasi_resolve.specs.Stack.{Stands}
use Rattle.wasi_resolve.specs.WalkSteps.{ModelStays}
use Rattle.wasi_resolve.proofs.stack.close_all.Given as goal

abbrev pub invariant-loop-handle : goal.invariant-loop-handle
invariant-loop-handle g l = record {
  stands : (first : Handles) → Stands first (g.H.Host.live l.initial.host) l.fn.start l.initial.stack.items
      → Stands first (g.H.Host.live l.host) l.fn.start l.stack.items;
  faults : g.H.Host.faults l.host ≡ g.H.Host.faults l.initial.host;
  logged : g.H.Host.lookups l.host ≡ g.H.Host.lookups l.initial.host;
  modelled : IsTrue g.H.Host.modelled → (first : Handles)
      → Stands first (g.H.Host.live l.initial.host) l.fn.start l.initial.stack.items
      → ModelStays first (g.H.Host.model l.initial.host) (g.H.Host.model l.host);
}

abbrev pub decreases-loop-handle : goal.decreases-loop-handle
decreases-loop-handle g l = vec_len l.stack
