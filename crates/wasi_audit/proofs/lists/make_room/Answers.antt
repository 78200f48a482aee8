use Rattle.std.proofs.Common.{◌∙◌, sym, arith, length-set}
use Rattle.wasi_audit.specs.NodeLists.{is_among}
use Rattle.wasi_audit.proofs.Keeping.{kept_nodes, room_more, room_stays}
use Rattle.wasi_audit.proofs.lists.make_room.Goals as goal
use Rattle.wasi_audit.proofs.lists.make_room.Goals.{then-contains+in_ok-reserve, else-contains}

pub returns-in_err-reserve-clause-same : goal.returns-in_err-reserve-clause-same
returns-in_err-reserve-clause-same c =
    kept_nodes c.loop-preopen.lists.items c.loop-preopen.preopen-counter c.reserve.new.self c.index_mut.result.now
    c.index_mut.ensures.value c.reserve.ensures.same ∙ c.loop-preopen.invariant.same

pub loop-preopen-preserved : goal.loop-preopen-preserved
loop-preopen-preserved c =
    let before = c.loop-preopen.invariant in
    let lists = c.loop-preopen.lists.items in
    elim c.if-contains.branch [
      | then-contains+in_ok-reserve w ↦ rw w.lists-is (record {
        same = kept_nodes lists c.loop-preopen.preopen-counter w.reserve.new.self w.index_mut.result.now
            w.index_mut.ensures.value w.reserve.ensures.same ∙ before.same;
        end = before.end ∙ sym (length-set lists c.loop-preopen.preopen-counter w.reserve.new.self);
        room = room_more (is_among c.args.preopens.now) c.args.more lists c.loop-preopen.preopen-counter w.reserve.new.self
            (omega (arith, before.end)) w.in_ok-reserve.ensures.room before.room;
      })
      | else-contains w ↦ rw w.lists-is (record {
        same = before.same;
        end = before.end;
        room = room_stays (is_among c.args.preopens.now) c.args.more lists c.loop-preopen.preopen-counter
            (sym c.contains.ensures.value ∙ w.if-contains.false) before.room;
      })
    ]
