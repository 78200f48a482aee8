use Rattle.std.proofs.Common.{◌∙◌, sym, arith}
use Rattle.wasi_tree_index.proofs.RowLemmas.{find_none}
use Rattle.wasi_tree_index.proofs.BlockLemmas.{find_here}
use Rattle.wasi_tree_index.proofs.blocks.find.Goals as goal

pub returns-then-k-len : goal.returns-then-k-len
returns-then-k-len c = sym (find_none c.args.key.now c.args.blocks.now.items
    (rw (← c.block_place-k.ensures.place) (omega arith)))

pub returns : goal.returns
returns c = c.found_at.ensures ∙ sym (find_here c.args.key.now c.args.blocks.now.items c.requires
    c.block_place-k.result c.block_place-k.ensures.place (omega arith) c.place_at-at.result c.place_at-at.ensures.place)
