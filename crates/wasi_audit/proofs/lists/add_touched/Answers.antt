use Rattle.std.proofs.Common.{arith}
use Rattle.wasi_audit.specs.NodeLists.{is_among}
use Rattle.wasi_audit.proofs.Keeping.{noted_each}
use Rattle.wasi_audit.proofs.lists.add_touched.Goals as goal

pub returns : goal.returns
returns c = noted_each (is_among c.args.preopens.now) c.args.touched.now c.args.lists.now.items c.loop-preopen.lists.items
    c.loop-preopen.invariant.len (λ k d less. c.loop-preopen.invariant.done k d (omega arith))
