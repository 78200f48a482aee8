use Rattle.wasi_tree_index.proofs.RowLemmas.{list_sorted}
use Rattle.wasi_tree_index.proofs.blocks.rising_place.Goals as goal

pub ends_before-requires : goal.ends_before-requires
ends_before-requires c =
    rw c.rows_at-rows.ensures (list_sorted c.args.blocks.now.items c.args.k c.requires.kept c.requires.within)

pub place-requires : goal.place-requires
place-requires c =
    rw c.rows_at-rows.ensures (list_sorted c.args.blocks.now.items c.args.k c.requires.kept c.requires.within)
