use Rattle.std.proofs.Common.{arith, rules}
use Rattle.wasi_tree_index.proofs.BlockLemmas.{at_len, is_block_at, taken_out, last_out}
use Rattle.wasi_tree_index.proofs.ShiftLemmas.{block_there, space_left}
use Rattle.wasi_tree_index.proofs.blocks.take_row.Goals as goal

pub returns-then-len-eq1-clause-rows : goal.returns-then-len-eq1-clause-rows
returns-then-len-eq1-clause-rows c = rw c.remove-block.ensures.items (last_out c.args.blocks.now.items c.args.k
    c.index.result.now c.requires.within c.index.ensures c.args.at (search rules) c.requires.at)

pub returns-then-len-eq1-clause-room : goal.returns-then-len-eq1-clause-room
returns-then-len-eq1-clause-room c =
    let old = is_block_at c.args.blocks.now.items c.args.k c.remove-block.result c.requires.within
    c.remove-block.ensures.value c.requires.each in
    let there = block_there c.remove-block.new.self c.clear.new.self (omega arith) (omega (arith, old.room)) in
    λ none. absurd (cc)

pub remove-requires : goal.remove-requires
remove-requires c =
    omega (arith, at_len c.args.blocks.now.items c.args.k c.index_mut.result.now c.requires.within c.index_mut.ensures.value)

pub returns-clause-rows : goal.returns-clause-rows
returns-clause-rows c = taken_out c.args.blocks.now.items c.args.k c.index_mut.result.now c.requires.within
    c.index_mut.ensures.value c.remove.new.self c.args.at c.remove.ensures.items

pub returns-clause-room : goal.returns-clause-room
returns-clause-room c = λ _.
    let old = is_block_at c.args.blocks.now.items c.args.k c.index_mut.result.now c.requires.within
    c.index_mut.ensures.value c.requires.each in
    space_left c.args.blocks.now.items c.args.k c.index_mut.result.now c.requires.within c.index_mut.ensures.value
    c.remove.new.self c.args.at (omega (
      arith,
      at_len c.args.blocks.now.items c.args.k c.index_mut.result.now
          c.requires.within c.index_mut.ensures.value,
    )) old.most c.remove.ensures.items
