use Rattle.std.proofs.Common.{◌∙◌, sym, ap, map}
use Rattle.wasi_tree_index.specs.DirEntryKeys.{row_entry}
use Rattle.wasi_tree_index.proofs.BlockLemmas.{at_block}
use Rattle.wasi_tree_index.proofs.blocks.rows_at.Goals as goal

pub returns : goal.returns
returns c = ap (map row_entry) c.as_slice.ensures.value
    ∙ sym (at_block c.args.blocks.now.items c.args.k c.index.result.now c.requires c.index.ensures)
