use Rattle.std.proofs.Common.{sym, ◌∙◌}
use Rattle.wasi_streams.specs.Writing.{failed}
use Rattle.wasi_streams.proofs.Writing.{ends, goes_on}
use Rattle.wasi_streams.proofs.output.write_all.Goals as goal

pub returns-in-Err-clause-writes : goal.returns-in-Err-clause-writes
returns-in-Err-clause-writes g c =
    rw c.stopped.ensures (c.loop-count.invariant.on _ _ _ (failed c.in-Err.ensures.puts))

pub returns-in-Some-clause-writes : goal.returns-in-Some-clause-writes
returns-in-Some-clause-writes g c =
    c.loop-count.invariant.on _ _ _
    (rw c.behind-at.ensures (ends c.in-Ok.ensures.puts c.in-Some.state (rw c.len.ensures.value at (sym c.in-Some.ensures))))

pub loop-count-preserved : goal.loop-count-preserved
loop-count-preserved g c = record {
  live = c.put.ensures.live ∙ c.loop-count.invariant.live;
  on = λ new end state rest.
      c.loop-count.invariant.on new end state
      (goes_on c.in-Ok.ensures.puts (rw c.len.ensures.value at (sym c.in-None.ensures))
      (rw (c.behind-at.ensures, c.advance.ensures) at rest));
}
