use Rattle.std.proofs.Common.{◌≡◌, ◌≤◌, vec_len, IsTrue}
use Rattle.wasi_host.specs.HostLaws.{Handles, HostModel}
use Rattle.wasi_resolve.specs.Finding.{StackTraced, FewUntil}
use Rattle.wasi_resolve.specs.Stack.{Stands, StillStands}
use Rattle.wasi_resolve.specs.WalkState.{begin, way_of}
use Rattle.wasi_resolve.specs.WalkSteps.{Walked, GoesOn}
use Rattle.wasi_resolve.proofs.walk.leg.Given as goal

abbrev pub invariant-loop-part : goal.invariant-loop-part
invariant-loop-part g l = record {
  later : (g.H.Host.faults l.initial.host).count ≤ (g.H.Host.faults l.host).count;
  most : (g.H.Host.faults l.host).most ≡ (g.H.Host.faults l.initial.host).most;
  stands : StillStands l.start (g.H.Host.live l.initial.host) l.initial.way.stack.items (g.H.Host.live l.host) l.way.stack.items;
  provenance : StackTraced l.start l.initial.way.stack.items l.way.stack.items (g.H.Host.lookups l.initial.host)
      (g.H.Host.lookups l.host);
  reads : FewUntil 0 l.initial.way.left.items l.way.left.items (g.H.Host.lookups l.initial.host) (g.H.Host.lookups l.host);
  modelled : IsTrue g.H.Host.modelled → (first : Handles) (w : HostModel)
      → Stands first (g.H.Host.live l.initial.host) l.start l.initial.way.stack.items
      → Walked first w (g.H.Host.model l.initial.host) l.start l.initial.way.stack.items
      → GoesOn (begin first w l.start)
      (way_of (g.H.Host.model l.initial.host) l.initial.way)
      (way_of (g.H.Host.model l.host) l.way);
}

abbrev pub decreases-loop-part : goal.decreases-loop-part
decreases-loop-part g l = vec_len l.way.left
