use Rattle.std.proofs.Common.{◌≡◌, ◌≤◌, ◌+◌, ◌-◌, ◌++◌, IsTrue, length}
use Rattle.wasi_io.specs.declared.reading.TheConstants.{MOST_BYTES}
use Rattle.wasi_io.proofs.reading.read_by.Given as goal

abbrev pub invariant-loop-all : goal.invariant-loop-all
invariant-loop-all g l = record {
  left : IsTrue g.S.Source.modelled → g.S.Source.left l.fn.source ≡ l.all.items ++ g.S.Source.left l.source;
  count : g.S.Source.faults l.fn.source ≤ g.S.Source.faults l.source;
  short : length l.all.items ≤ MOST_BYTES + 1;
}

abbrev pub decreases-loop-all : goal.decreases-loop-all
decreases-loop-all g l = MOST_BYTES + 1 - length l.all.items
