use Rattle.std.proofs.Common.{refl}
use Rattle.wasi_tree_index.proofs.RowLemmas.{set_row}
use Rattle.wasi_tree_index.proofs.blocks.set_node.Goals as goal

pub returns-clause-rows : goal.returns-clause-rows
returns-clause-rows c = set_row c.args.block.now.items c.args.at c.index_mut.result.now _ c.requires c.index_mut.ensures.value refl
