use Rattle.wasi_tree.proofs.PutParents.{put_entry}
use Rattle.wasi_tree.proofs.parents.put_entries.Goals as goal

pub loop-entry-preserved : goal.loop-entry-preserved
loop-entry-preserved c =
    put_entry c.args.entries.now c.loop-entry.entry-index c.entry-item.result c.loop-entry.invariant
    c.loop-entry-test.true c.entry-item.is c.put_one.ensures
