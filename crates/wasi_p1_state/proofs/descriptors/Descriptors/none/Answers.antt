use Rattle.std.proofs.Common.{arith, refl}
use Rattle.std.specs.FinMap.{len-empty}
use Rattle.std.specs.Ordering.{nat_cmp}
use Rattle.wasi_streams.specs.declared.entry.Entry.{Entry}
use Rattle.wasi_p1_state.proofs.Naming.{none_named, none_slots}
use Rattle.wasi_p1_state.proofs.descriptors.Descriptors.none.Goals as goal

pub invariant_of-result : goal.invariant_of-result
invariant_of-result c = rw (c.new.ensures.items) (record {
  indexed = rw (none_slots c.with_max.result.entries) (record {
    closed = record {
      order = c.new-2.ensures.heap_order;
      each = λ n. rw c.new-2.ensures.items refl;
      count = rw c.new-2.ensures.items refl;
    };
    room = omega arith;
  });
  named = none_named _ c.with_max.ensures.entries;
  count = rw (c.with_max.ensures.entries, c.new-2.ensures.items) (omega (arith, len-empty nat_cmp Entry));
})

pub returns-clause-slots : goal.returns-clause-slots
returns-clause-slots c = rw c.new.ensures.items (none_slots _)
