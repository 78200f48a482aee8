use Rattle.std.proofs.Common.{◌≡◌, length, map, take, replicate}
use Rattle.wasi_form.specs.Plan.{planned_piece}
use Rattle.wasi_setup.specs.Start.{with_pieces}
use Rattle.wasi_setup.proofs.setup.first_memory.Given as goal

abbrev pub invariant-loop-piece : goal.invariant-loop-piece
invariant-loop-piece l = record {
  written : l.memory ≡ with_pieces (replicate l.size 0) (map planned_piece (take l.piece-index l.pieces));
  size : length l.memory ≡ l.size;
}
