use Rattle.std.proofs.Common.{arith}
use Rattle.wasi_tree_index.proofs.SplitLemmas.{split_left, split_right}
use Rattle.wasi_tree_index.proofs.blocks.split_row.Goals as goal

pub returns-then-at-cut-clause-rows : goal.returns-then-at-cut-clause-rows
returns-then-at-cut-clause-rows c = rw (c.insert_row.ensures.items, c.move_tail.ensures.front, c.move_tail.ensures.back)
    (split_left c.args.block.now.items c.if-at-eq-BLOCK.cut c.args.at c.args.row (omega arith) c.if-at-cut.true)

pub returns-else-at-cut-clause-rows : goal.returns-else-at-cut-clause-rows
returns-else-at-cut-clause-rows c = rw (c.insert_row-else-at-cut.ensures.items, c.move_tail.ensures.front, c.move_tail.ensures.back)
    (split_right c.args.block.now.items c.if-at-eq-BLOCK.cut c.args.at c.args.row (omega arith) c.if-at-cut.false)
