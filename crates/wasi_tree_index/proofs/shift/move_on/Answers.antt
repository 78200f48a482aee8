use Rattle.std.proofs.Common.{◌∙◌, arith, subst}
use Rattle.std.proofs.lemmas.List.Elements.{All-set}
use Rattle.wasi_tree_index.specs.Blocks.{IsBlock, HasSpace}
use Rattle.wasi_tree_index.proofs.BlockLemmas.{at_len}
use Rattle.wasi_tree_index.proofs.ShiftLemmas.{space_stays, moved_on}
use Rattle.wasi_tree_index.proofs.shift.move_on.Goals as goal

pub pass_on-row-requires-clause-at : goal.pass_on-row-requires-clause-at
pass_on-row-requires-clause-at c = let place = c.loop-k.invariant.place in
    omega (
      arith,
      place.at,
      at_len c.loop-k.blocks.items c.loop-k.k c.index_mut.result.now place.within c.index_mut.ensures.value,
    )

pub loop-k-preserved : goal.loop-k-preserved
loop-k-preserved c =
    let place = c.loop-k.invariant.place in
    let room = c.loop-k.invariant.room in
    let left = space_stays c.loop-k.blocks.items c.loop-k.k c.pass_on-row.new.block c.args.free
    (λ is. absurd (omega arith)) room in
    record {
      order = omega arith;
      place = record {
        within = omega (arith, left.within);
        at = omega arith;
        each = All-set IsBlock c.loop-k.blocks.items c.loop-k.k c.pass_on-row.new.block c.pass_on-row.ensures.block
            place.each;
      };
      room = left;
      rows = moved_on c.loop-k.blocks.items c.loop-k.k c.index_mut.result.now place.within c.index_mut.ensures.value
          c.pass_on-row.new.block c.loop-k.at c.loop-k.row c.pass_on-row.result (omega (arith, room.within))
          c.pass_on-row.ensures.rows ∙ c.loop-k.invariant.rows;
    }

pub insert_into-requires-clause-room : goal.insert_into-requires-clause-room
insert_into-requires-clause-room c = subst (HasSpace c.loop-k.blocks.items) (omega arith) c.loop-k.invariant.room
