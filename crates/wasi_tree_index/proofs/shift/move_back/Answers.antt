use Rattle.std.proofs.Common.{◌∙◌, ◌-◌, ◌<◌, length, length-set, set, arith, subst}
use Rattle.std.proofs.lemmas.List.Elements.{All-set}
use Rattle.wasi_tree_index.specs.Blocks.{IsBlock, HasSpace}
use Rattle.wasi_tree_index.proofs.BlockLemmas.{at_len}
use Rattle.wasi_tree_index.proofs.ShiftLemmas.{space_stays, moved_back}
use Rattle.wasi_tree_index.proofs.shift.move_back.Goals as goal

pub pass_back-row-requires-clause-at : goal.pass_back-row-requires-clause-at
pass_back-row-requires-clause-at c = let place = c.loop-k.invariant.place in
    omega (
      arith,
      place.at,
      at_len c.loop-k.blocks.items c.loop-k.k c.index_mut.result.now place.within c.index_mut.ensures.value,
    )

pub loop-k-preserved : goal.loop-k-preserved
loop-k-preserved c =
    let place = c.loop-k.invariant.place in
    let within : c.loop-k.k - 1 < length (set c.loop-k.blocks.items c.loop-k.k c.pass_back-row.new.block) =
    omega (arith, place.within, length-set c.loop-k.blocks.items c.loop-k.k c.pass_back-row.new.block) in
    let before = at_len (set c.loop-k.blocks.items c.loop-k.k c.pass_back-row.new.block) (c.loop-k.k - 1)
    c.index.result.now within c.index.ensures in
    record {
      order = omega arith;
      place = record {
        within = within;
        at = omega (arith, before);
        each = All-set IsBlock c.loop-k.blocks.items c.loop-k.k c.pass_back-row.new.block c.pass_back-row.ensures.block
            place.each;
      };
      room = space_stays c.loop-k.blocks.items c.loop-k.k c.pass_back-row.new.block c.args.free
          (λ is. absurd (omega arith)) c.loop-k.invariant.room;
      rows = moved_back c.loop-k.blocks.items c.loop-k.k c.index_mut.result.now place.within
          c.index_mut.ensures.value c.pass_back-row.new.block c.loop-k.at c.loop-k.row c.pass_back-row.result
          (c.loop-k.k - 1) (omega arith) c.pass_back-row.ensures.rows c.len-at.result (omega (arith, before))
          ∙ c.loop-k.invariant.rows;
    }

pub insert_into-requires-clause-room : goal.insert_into-requires-clause-room
insert_into-requires-clause-room c = subst (HasSpace c.loop-k.blocks.items) (omega arith) c.loop-k.invariant.room
