use Rattle.std.proofs.Common.{◌≡◌, ◌-◌, ◌≤◌}
use Rattle.wasi_tree_index.specs.Blocks.{with_row, IsPlace, HasSpace}
use Rattle.wasi_tree_index.proofs.shift.move_on.Given as goal

abbrev pub invariant-loop-k : goal.invariant-loop-k
invariant-loop-k l = record {
  order : l.k ≤ l.free;
  place : IsPlace l.blocks.items l.k l.at;
  room : HasSpace l.blocks.items l.free;
  rows : with_row l.blocks.items l.k l.at l.row ≡ with_row l.fn.blocks.items l.fn.k l.fn.at l.fn.row;
}

abbrev pub decreases-loop-k : goal.decreases-loop-k
decreases-loop-k l = l.free - l.k
