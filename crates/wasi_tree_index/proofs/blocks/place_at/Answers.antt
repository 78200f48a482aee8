use Rattle.wasi_tree_index.proofs.RowLemmas.{list_sorted}
use Rattle.wasi_tree_index.proofs.blocks.place_at.Goals as goal

pub place-requires : goal.place-requires
place-requires c = rw c.rows_at.ensures (list_sorted c.args.blocks.now.items c.args.k c.requires.kept c.requires.within)
