use Rattle.std.proofs.Common.{rules, arith, ap, sym, ◌<◌, heap_len, subst}
use Rattle.std.specs.Prelude.{IsOk}
use Rattle.std.specs.BinaryHeap.{heap_capacity}
use Rattle.std.proofs.lemmas.Bool.{true≢false}
use Rattle.wasi_p1_state.proofs.ClosedHeap.{room_left}
use Rattle.wasi_p1_state.proofs.Tabled.{is_given, live_item, left_kept, left_slots}
use Rattle.wasi_p1_state.proofs.Naming.{slots-at}
use Rattle.wasi_p1_state.proofs.Viewing.{kept_owned}
use Rattle.wasi_p1_state.proofs.descriptors.Descriptors.close.Goals as goal

pub unreachable-requires : goal.unreachable-requires
unreachable-requires g c =
    let full = room_left c.self.invariant.indexed.closed c.args.fd (search rules) (search rules) in
    let room : heap_len c.self.inside.closed < heap_capacity c.self.inside.closed =
    omega (arith, full, c.self.inside.closed.data.ok.0, c.self.invariant.indexed.room) in
    absurd (true≢false (sym (subst IsOk c.in_default.is (c.push.ensures.succeeds room))))

pub item_under-item-requires : goal.item_under-item-requires
item_under-item-requires g c =
    let among = rw (← c.self.view_is) at c.requires.within in
    omega (arith, is_given _ _ _ among, c.self.inside.items.ok.0)

pub index_mut-requires : goal.index_mut-requires
index_mut-requires g c =
    let among = rw (← c.self.view_is) at c.requires.within in
    omega (arith, is_given _ _ _ among, c.self.inside.items.ok.0)

pub drop_item-requires : goal.drop_item-requires
drop_item-requires g c =
    let among = rw (← c.self.view_is) at c.requires.within in
    let live = rw (← c.self.view_is) at c.requires.was_in_use in
    record {
      kind = rw c.item_under-item.ensures (c.self.invariant.named.kinds c.args.fd);
      in_use = rw c.item_under-item.ensures (live_item c.self.invariant among live);
      owned = kept_owned c.self.invariant c.self.view_is c.requires.holds;
    }

pub invariant_of-self : goal.invariant_of-self
invariant_of-self g c =
    let among = rw (← c.self.view_is) at c.requires.within in
    let live = rw (← c.self.view_is) at c.requires.was_in_use in
    rw (c.drop_item.ensures.entries, c.item_under-item.ensures)
    (left_kept c.self.invariant among live c.in-Ok.ensures.permutation
    (c.in-Ok.ensures.heap_order c.self.invariant.indexed.closed.order) c.in-Ok.ensures.capacity)

pub returns-clause-slots : goal.returns-clause-slots
returns-clause-slots g c =
    let among = rw (← c.self.view_is) at c.requires.within in
    let live = rw (← c.self.view_is) at c.requires.was_in_use in
    rw (c.drop_item.ensures.entries, c.item_under-item.ensures, ← c.self.view_is)
    (left_slots c.self.invariant among live)

pub returns-clause-room : goal.returns-clause-room
returns-clause-room g c =
    let room = ap (λ t. t.room) c.self.view_is in
    grind (
      arith,
      room,
      c.drop_item.ensures.spare,
      c.in-Ok.ensures.len,
      c.in-Ok.ensures.capacity,
      c.self.invariant.indexed.room,
    )

pub returns-clause-live : goal.returns-clause-live
returns-clause-live g c = let stands = slots-at c.self.inside.table.entries c.self.inside.items.items c.args.fd in
    rw (← c.self.view_is, stands, ← c.item_under-item.ensures) c.drop_item.ensures.live
