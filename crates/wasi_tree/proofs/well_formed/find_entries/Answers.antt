use Rattle.std.proofs.Common.{◌∙◌}
use Rattle.wasi_tree.proofs.FoundLemmas.{marked_entry}
use Rattle.wasi_tree.proofs.well_formed.find_entries.Goals as goal

pub loop-entry-preserved : goal.loop-entry-preserved
loop-entry-preserved c = (
  marked_entry c.args.entries.now c.loop-entry.entry-index c.entry-item.result c.loop-entry.invariant.0 c.loop-entry-test.true c.entry-item.is c.find.ensures.marked,
  c.find.ensures.room ∙ c.loop-entry.invariant.1,
)
