use Rattle.std.proofs.Common.{◌≡◌, ◌++◌}
use Rattle.std.specs.Vec.Iter.{into_iter_items}
use Rattle.wasi_guests.specs.Between.{AreBegunOn}
use Rattle.wasi_guests.proofs.run.begin_all.Given as goal

abbrev pub invariant-loop-guest : goal.invariant-loop-guest
invariant-loop-guest l = record {
  items : l.yielded ++ into_iter_items l.guest-iterator ≡ l.fn.guests.items;
  begun : AreBegunOn l.base.tree l.yielded l.runs.items;
}
