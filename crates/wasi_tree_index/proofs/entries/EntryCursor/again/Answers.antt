use Rattle.wasi_tree_index.specs.EntryCursors.{entries_from}
use Rattle.wasi_tree_index.proofs.RunLemmas.{run_in_order}
use Rattle.wasi_tree_index.proofs.entries.EntryCursor.again.Goals as goal

pub returns-clause-rising : goal.returns-clause-rising
returns-clause-rising c =
    rw (← c.self.view_is) (run_in_order c.self.inside.directory (entries_from c.self.inside.here.now c.self.inside.rest.now)
    c.self.invariant.rises)
