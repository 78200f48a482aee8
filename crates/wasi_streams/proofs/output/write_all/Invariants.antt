use Rattle.std.proofs.Common.{◌≡◌, length}
use Rattle.wasi_streams.specs.Reading.{HostSeen, host_seen}
use Rattle.wasi_streams.specs.Writing.{WritesAll}
use Rattle.wasi_streams.specs.declared.output.FileOutputMode.{FileOutputMode}
use Rattle.wasi_streams.specs.declared.output.OutputState.{OutputState}
use Rattle.wasi_streams.proofs.output.write_all.Given as goal

-- what is written on from here is written on from the start
abbrev pub invariant-loop-count : goal.invariant-loop-count
invariant-loop-count g l = record {
  live : g.H.Host.live l.host ≡ g.H.Host.live l.initial.host;
  on : (new : HostSeen) (end : FileOutputMode) (state : OutputState)
      → WritesAll g.H.Host.modelled l.file (host_seen g.H.Host.faults g.H.Host.live g.H.Host.lookups g.H.Host.model l.host) l.at l.rest new end state
      → WritesAll g.H.Host.modelled l.file (host_seen g.H.Host.faults g.H.Host.live g.H.Host.lookups g.H.Host.model l.initial.host) l.initial.at l.initial.rest new end state;
}

abbrev pub decreases-loop-count : goal.decreases-loop-count
decreases-loop-count g l = length l.rest
