-- The handles stay owned, from call to call.
use Rattle.wasi_p2_calls.specs.Views.{FilesOwned, files_of}
use Rattle.test_p2.proofs.lines.view_answers.Given as goal

abbrev pub invariant-loop-before : goal.invariant-loop-before
invariant-loop-before g l = record {
  next : (goal.iterator-loop-before g).can_next l.before-iterator;
  finite : (goal.iterator-loop-before g).is_finite l.before-iterator;
  owned : FilesOwned g.H.Host (files_of l.view.ctx.now l.view.table.now);
}
