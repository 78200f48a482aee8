use Rattle.std.proofs.Common.{arith}
use Rattle.wasi_p1_model.proofs.Telling.{sizes_more, sizes_none}
use Rattle.wasi_p1_env_calls.proofs.subscriptions.sizes_asked.Goals as goal

pub loop-item-preserved : goal.loop-item-preserved
loop-item-preserved c =
    let more = sizes_more c.args.waited.now c.loop-item.item-index c.item-item.result c.loop-item-test.true c.item-item.is in record {
      few = omega (arith, c.loop-item.invariant.few, c.sizes-count.ensures.most);
      all = omega (arith, c.loop-item.invariant.all, more, c.sizes-count.ensures.count);
    }

pub returns : goal.returns
returns c = omega (arith, c.loop-item.invariant.all, sizes_none c.args.waited.now c.loop-item.item-index c.loop-item-test.false)
