-- The stream keeps its handle, and what is live stays, from call to call.
use Rattle.std.proofs.Common.{◌≡◌}
use Rattle.test_streams.proofs.along.push_answers.Given as goal

abbrev pub invariant-loop-before : goal.invariant-loop-before
invariant-loop-before g l = record {
  next : (goal.iterator-loop-before g).can_next l.before-iterator;
  finite : (goal.iterator-loop-before g).is_finite l.before-iterator;
  live : g.H.Host.live l.host ≡ g.H.Host.live l.fn.host;
  handle : g.S.Calls.handle l.stream ≡ g.S.Calls.handle l.fn.stream;
}
