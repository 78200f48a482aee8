-- The handles stay owned, and the place is there, from call to call.
use Rattle.std.proofs.Common.{◌<◌, length}
use Rattle.test_p2.specs.AllOwned.{AllOwned}
use Rattle.test_p2.proofs.lines.named_answers.Given as goal

abbrev pub invariant-loop-before : goal.invariant-loop-before
invariant-loop-before g l = record {
  next : (goal.iterator-loop-before g).can_next l.before-iterator;
  finite : (goal.iterator-loop-before g).is_finite l.before-iterator;
  named : l.id.0 < length (g.T.WasiFilesystemNamedView.all l.all.0.now);
  owned : AllOwned g.H.Host (g.T.WasiFilesystemNamedView.all l.all.0.now);
}
