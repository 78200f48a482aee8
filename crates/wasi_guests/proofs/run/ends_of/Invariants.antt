use Rattle.std.proofs.Common.{◌≡◌, ◌++◌, map}
use Rattle.std.specs.Vec.Iter.{into_iter_items}
use Rattle.wasi_guests.specs.Alone.{ended}
use Rattle.wasi_guests.specs.Between.{end_of}
use Rattle.wasi_guests.proofs.run.ends_of.Given as goal

abbrev pub invariant-loop-run : goal.invariant-loop-run
invariant-loop-run l = record {
  items : l.yielded ++ into_iter_items l.run-iterator ≡ l.fn.runs.items;
  ends : map ended l.ends.items ≡ map end_of l.yielded;
}
