-- The streams keep their handles, and what is live stays, from chunk to chunk.
use Rattle.std.proofs.Common.{◌≡◌}
use Rattle.test_streams.proofs.amounts.copy.Given as goal

abbrev pub invariant-loop-chunk : goal.invariant-loop-chunk
invariant-loop-chunk g l = record {
  live : g.H.Host.live l.host ≡ g.H.Host.live l.fn.host;
  input : l.input.file ≡ l.fn.input.file;
  output : l.output.file ≡ l.fn.output.file;
}
