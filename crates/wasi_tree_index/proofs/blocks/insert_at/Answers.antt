use Rattle.std.proofs.Common.{arith}
use Rattle.wasi_tree_index.proofs.BlockLemmas.{at_len, is_block_at, split, split_each}
use Rattle.wasi_tree_index.proofs.ShiftLemmas.{space_here}
use Rattle.wasi_tree_index.proofs.blocks.insert_at.Goals as goal

pub insert_into-requires-clause-room : goal.insert_into-requires-clause-room
insert_into-requires-clause-room c = space_here c.args.blocks.now.items c.args.k c.index.result.now
    c.requires.place.within c.index.ensures (omega arith)

pub split_row-back-requires-clause-at : goal.split_row-back-requires-clause-at
split_row-back-requires-clause-at c =
    let place = c.requires.place in
    let full = is_block_at c.args.blocks.now.items c.args.k c.index_mut.result.now place.within
    c.index_mut.ensures.value place.each in
    omega (
      arith,
      place.at,
      full.most,
      at_len c.args.blocks.now.items c.args.k c.index_mut.result.now place.within c.index_mut.ensures.value,
    )

pub returns-clause-each : goal.returns-clause-each
returns-clause-each c = rw c.insert_block.ensures (split_each c.args.blocks.now.items c.args.k _ c.split_row-back.new.block
    c.split_row-back.result c.requires.place.each c.split_row-back.ensures.front c.split_row-back.ensures.back)

pub returns-clause-rows : goal.returns-clause-rows
returns-clause-rows c = rw c.insert_block.ensures (split c.args.blocks.now.items c.args.k c.index_mut.result.now
    c.requires.place.within c.index_mut.ensures.value c.split_row-back.new.block c.split_row-back.result c.args.at
    c.args.row c.split_row-back.ensures.rows)
