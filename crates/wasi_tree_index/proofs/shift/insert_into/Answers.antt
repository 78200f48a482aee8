use Rattle.std.proofs.Common.{arith, ap, length}
use Rattle.std.proofs.lemmas.List.Elements.{All-set}
use Rattle.std.proofs.lemmas.List.Edits.{length-insert}
use Rattle.wasi_tree_index.specs.Blocks.{IsBlock}
use Rattle.wasi_tree_index.proofs.BlockLemmas.{at_len, is_block_at, inserted}
use Rattle.wasi_tree_index.proofs.shift.insert_into.Goals as goal

pub insert_row-requires-clause-within : goal.insert_row-requires-clause-within
insert_row-requires-clause-within c = omega (
  arith,
  at_len c.args.blocks.now.items c.args.k c.index_mut.result.now
      c.requires.place.within c.index_mut.ensures.value,
)

pub insert_row-requires-clause-room : goal.insert_row-requires-clause-room
insert_row-requires-clause-room c =
    let old = is_block_at c.args.blocks.now.items c.args.k c.index_mut.result.now c.requires.place.within
    c.index_mut.ensures.value c.requires.place.each in
    omega (
      arith,
      old.room,
      c.requires.room.space,
      at_len c.args.blocks.now.items c.args.k c.index_mut.result.now
          c.requires.place.within c.index_mut.ensures.value,
    )

pub returns-clause-each : goal.returns-clause-each
returns-clause-each c =
    let old = is_block_at c.args.blocks.now.items c.args.k c.index_mut.result.now c.requires.place.within
    c.index_mut.ensures.value c.requires.place.each in
    let same = at_len c.args.blocks.now.items c.args.k c.index_mut.result.now c.requires.place.within
    c.index_mut.ensures.value in
    let more = length-insert c.index_mut.result.now.items c.args.at c.args.row
    (omega (arith, same, c.requires.place.at)) in
    let len = ap length c.insert_row.ensures.items in
    All-set IsBlock c.args.blocks.now.items c.args.k c.insert_row.new.block (record {
      some = omega (arith, more, len);
      most = omega (arith, more, len, same, c.requires.room.space);
      room = omega (arith, old.room, c.insert_row.ensures.capacity);
    }) c.requires.place.each

pub returns-clause-rows : goal.returns-clause-rows
returns-clause-rows c = inserted c.args.blocks.now.items c.args.k c.index_mut.result.now c.requires.place.within
    c.index_mut.ensures.value c.insert_row.new.block c.args.at c.args.row c.insert_row.ensures.items
