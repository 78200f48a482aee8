use Rattle.std.proofs.Common.{◌≡◌, ◌≤◌, ◌-◌, ◌++◌, IsTrue, length, take}
use Rattle.wasi_io.proofs.writing.write_all.Given as goal

abbrev pub invariant-loop-done : goal.invariant-loop-done
invariant-loop-done g l = record {
  taken : IsTrue g.K.Sink.modelled → g.K.Sink.taken l.sink ≡ g.K.Sink.taken l.fn.sink ++ take l.done l.text;
  count : g.K.Sink.faults l.fn.sink ≤ g.K.Sink.faults l.sink;
  within : l.done ≤ length l.text;
}

abbrev pub decreases-loop-done : goal.decreases-loop-done
decreases-loop-done g l = length l.text - l.done
