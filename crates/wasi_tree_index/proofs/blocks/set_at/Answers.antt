use Rattle.std.proofs.Common.{arith}
use Rattle.wasi_tree_index.proofs.BlockLemmas.{at_len, reset}
use Rattle.wasi_tree_index.proofs.blocks.set_at.Goals as goal

pub set_node-requires : goal.set_node-requires
set_node-requires c =
    omega (arith, at_len c.args.blocks.now.items c.args.k c.index_mut.result.now c.requires.within c.index_mut.ensures.value)

pub returns-clause-rows : goal.returns-clause-rows
returns-clause-rows c = reset c.args.blocks.now.items c.args.k c.index_mut.result.now c.requires.within
    c.index_mut.ensures.value c.set_node.new.block c.args.at c.args.node c.set_node.ensures.rows
