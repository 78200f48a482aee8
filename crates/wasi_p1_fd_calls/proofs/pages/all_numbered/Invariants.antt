use Rattle.std.proofs.Common.{◌≡◌, ◌≤◌, ◌++◌, map}
use Rattle.std.specs.Prelude.{IsTrue}
use Rattle.std.specs.Vec.Iter.{into_iter_items}
use Rattle.wasi_host.specs.Answer.{entry_of}
use Rattle.wasi_host.specs.Provenance.{HasProvenance, Only, Nothing}
use Rattle.wasi_p1_model.specs.EntriesSeen.{entries_seen}
use Rattle.wasi_p1_types.specs.Listing.{HasShortNames}
use Rattle.wasi_p1_model.proofs.Listings.{SoFar}
use Rattle.wasi_p1_fd_calls.proofs.pages.all_numbered.Given as goal

-- the names so far were looked at, and nothing else was done
abbrev pub invariant-loop-name : goal.invariant-loop-name
invariant-loop-name g l = record {
  items : l.yielded ++ into_iter_items l.name-iterator ≡ l.fn.names.items;
  later : (g.H.Host.faults l.fn.host).count ≤ (g.H.Host.faults l.host).count;
  most : (g.H.Host.faults l.host).most ≡ (g.H.Host.faults l.fn.host).most;
  live : g.H.Host.live l.host ≡ g.H.Host.live l.fn.host;
  provenance : HasProvenance (Only l.dir.dir) Nothing Nothing (g.H.Host.lookups l.fn.host) (g.H.Host.lookups l.host);
  short : HasShortNames (entries_seen l.entries.items);
  modelled : IsTrue g.H.Host.modelled → SoFar (g.H.Host.live l.fn.host) (g.H.Host.model l.fn.host) (g.H.Host.model l.host)
      ((g.H.Host.model l.fn.host).held l.dir.dir).node l.node (map entry_of l.yielded) (entries_seen l.entries.items);
}
