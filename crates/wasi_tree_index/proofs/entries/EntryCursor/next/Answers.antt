use Rattle.std.proofs.Common.{◌∙◌, sym}
use Rattle.wasi_tree_index.proofs.RunLemmas.{run_over}
use Rattle.wasi_tree_index.proofs.entries.EntryCursor.next.Goals as goal

pub returns-then-row-self : goal.returns-then-row-self
returns-then-row-self c =
    let over = sym c.self.view_is ∙ run_over c.self.inside.directory c.in-Some.row.now c.in-Some.here.now
    c.self.inside.here.now c.self.inside.rest.now c.in-Some.ensures.cases.0 c.self.invariant c.if-row-self.true in
    (over, over)
