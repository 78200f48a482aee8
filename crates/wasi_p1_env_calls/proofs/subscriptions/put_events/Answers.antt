use Rattle.std.proofs.Common.{◌+◌}
use Rattle.wasi_p1_model.proofs.Telling.{one_put, all_counted, all_put}
use Rattle.wasi_p1_env_calls.proofs.subscriptions.put_events.Goals as goal

pub loop-item-preserved : goal.loop-item-preserved
loop-item-preserved c =
    let reads = c.sizes-read.ensures.count in
    one_put {read' = c.loop-item.read + c.sizes-read.result} {w = c.item-item.result} c.loop-item-test.true c.item-item.is
    c.size_at-size.ensures c.put_event-place.ensures.next c.put_event-place.ensures.written
    (λ i. c.loop-item.read + reads i) c.loop-item.invariant

pub returns-clause-count : goal.returns-clause-count
returns-clause-count c = all_counted c.loop-item-test.false c.loop-item.invariant

pub returns-clause-written : goal.returns-clause-written
returns-clause-written c = all_put c.loop-item-test.false c.loop-item.invariant
