use Rattle.std.proofs.Common.{◌≡◌, ◌≤◌, ◌++◌, length, reverse, vec_capacity}
use Rattle.wasi_tree_index.proofs.blocks.move_tail.Given as goal

abbrev pub invariant-loop-block : goal.invariant-loop-block
invariant-loop-block l = record {
  all : l.block.items ++ reverse l.back.items ≡ l.fn.block.items;
  within : l.at ≤ length l.block.items;
  block : vec_capacity l.block ≡ vec_capacity l.fn.block;
  back : vec_capacity l.back ≡ vec_capacity l.fn.back;
}

abbrev pub decreases-loop-block : goal.decreases-loop-block
decreases-loop-block l = length l.block.items
