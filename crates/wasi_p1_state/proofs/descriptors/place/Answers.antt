use Rattle.std.proofs.Common.{arith, sym, ◌<◌, ◌≤◌, ◌∙◌, length}
use Rattle.std.specs.BinaryHeap.{heap_capacity}
use Rattle.wasi_p1_state.proofs.ClosedHeap.{pushed_new, top_within, top_closed, taken_new}
use Rattle.wasi_p1_state.proofs.Naming.{slots_length, taken_slots, behind_slots}
use Rattle.wasi_p1_state.proofs.Tabled.{taken_kept, behind_kept}
use Rattle.wasi_p1_state.proofs.descriptors.place.Goals as goal

pub index_mut-requires : goal.index_mut-requires
index_mut-requires c = omega (
  arith,
  top_within c.requires.kept.1.indexed.closed c.in-Some.ensures.permutation,
  slots_length c.requires.kept.0 c.args.items.now.items,
  c.args.items.now.ok.0,
)

pub returns-in-Some-clause-placed : goal.returns-in-Some-clause-placed
returns-in-Some-clause-placed c = λ table table' slot kept admitted used.
    let closed = kept.indexed.closed in
    let order = c.in-Some.ensures.heap_order closed.order in
    let grows : heap_capacity c.args.closed.now ≤ heap_capacity c.pop.new.self =
    omega (arith, c.in-Some.ensures.capacity) in
    let new = taken_new closed c.in-Some.ensures.permutation slot order.1 in
    record {
      kept = taken_kept kept admitted used c.in-Some.ensures.permutation order.0 grows;
      number = new.0;
      slots = taken_slots kept.named admitted _ (top_closed closed c.in-Some.ensures.permutation) ∙ new.1;
    }

pub returns-in-None-clause-placed : goal.returns-in-None-clause-placed
returns-in-None-clause-placed c = λ table table' slot kept admitted used.
    let room : length c.args.items.now.items < heap_capacity c.pop.new.self =
    omega (arith, c.requires.room, c.in-None.ensures.none, c.args.items.now.ok.0) in
    let new = pushed_new kept.indexed.closed slot (sym c.args.closed.now.data.ok.0 ∙ c.in-None.ensures.none) in
    rw (c.push_reserved.ensures.items, c.in-None.ensures.unchanged.0) (record {
      kept = behind_kept kept admitted used room;
      number = rw (c.len-number.ensures, c.args.items.now.ok.0, ← slots_length table c.args.items.now.items) new.0;
      slots = behind_slots kept.named admitted ∙ new.1;
    })
