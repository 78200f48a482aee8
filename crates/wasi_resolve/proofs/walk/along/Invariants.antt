use Rattle.std.proofs.Common.{◌≡◌, ◌≤◌, ◌+◌, ◌-◌, IsTrue}
use Rattle.wasi_host.specs.HostLaws.{Handles, HostModel}
use Rattle.wasi_resolve.specs.Finding.{course_of, StackTraced}
use Rattle.wasi_resolve.specs.Resolved.{links_read}
use Rattle.wasi_resolve.specs.Stack.{Stands, StillStands}
use Rattle.wasi_resolve.specs.WalkState.{begin, way_of}
use Rattle.wasi_resolve.specs.WalkSteps.{Walked}
use Rattle.wasi_resolve.proofs.Coming.{SoFar}
use Rattle.wasi_resolve.proofs.walk.along.Given as goal

abbrev pub invariant-loop-links : goal.invariant-loop-links
invariant-loop-links g l = record {
  later : (g.H.Host.faults l.initial.host).count ≤ (g.H.Host.faults l.host).count;
  most : (g.H.Host.faults l.host).most ≡ (g.H.Host.faults l.initial.host).most;
  stands : StillStands l.start (g.H.Host.live l.initial.host) l.initial.way.stack.items (g.H.Host.live l.host) l.way.stack.items;
  provenance : StackTraced l.start l.initial.way.stack.items l.way.stack.items (g.H.Host.lookups l.initial.host)
      (g.H.Host.lookups l.host);
  links_so_far : links_read (g.H.Host.lookups l.host) ≤ links_read (g.H.Host.lookups l.initial.host) + l.links;
  modelled : IsTrue g.H.Host.modelled → (first : Handles) (w : HostModel)
      → Stands first (g.H.Host.live l.initial.host) l.start l.initial.way.stack.items
      → Walked first w (g.H.Host.model l.initial.host) l.start l.initial.way.stack.items
      → SoFar (begin first w l.start) (course_of l.aim l.has_slash)
      (way_of (g.H.Host.model l.initial.host) l.initial.way) (40 - l.links) l.slash
      (way_of (g.H.Host.model l.host) l.way) (g.H.Host.lookups l.initial.host)
      (g.H.Host.lookups l.host);
}
