use Rattle.std.proofs.Common.{arith}
use Rattle.std.proofs.lemmas.Result.{err_from_is_err_and}
use Rattle.wasi_p1_model.proofs.Judging.{none_judged, one_judged, all_judged, first_refused}
use Rattle.wasi_p1_env_calls.proofs.subscriptions.judged_at.Goals as goal

pub loop-i-init : goal.loop-i-init
loop-i-init g c = record { next = omega arith; few = omega arith; early = omega arith; left = none_judged _ _ _ _ _ }

pub returns-in_err-waited-clause-specified : goal.returns-in_err-waited-clause-specified
returns-in_err-waited-clause-specified g c =
    let error = err_from_is_err_and c.from_residual.result c.from_residual.ensures.1 in
    rw (error.1, error.2) (first_refused (omega arith) c.in_err-waited.ensures.specified c.loop-i.invariant.left)

pub loop-i-preserved : goal.loop-i-preserved
loop-i-preserved g c = record {
  next = omega (arith, c.in_ok-waited.ensures.next);
  few = omega (arith, c.with-judged.ensures.files, c.files.ensures.most);
  early = omega (arith, c.with-judged.ensures.earliest, c.loop-i.invariant.early);
  left = one_judged (g.H.Host.model c.args.host.now).held c.loop-i.judged c.with-judged.result c.in_ok-waited.waited (omega arith) c.in_ok-waited.ensures.specified
      (omega (arith, c.with-judged.ensures.files, c.files.ensures.count))
      (omega (arith, c.with-judged.ensures.earliest, c.comes_at.ensures)) c.loop-i.invariant.left;
}

pub returns-clause-specified : goal.returns-clause-specified
returns-clause-specified g c = all_judged c.loop-i.judged (omega arith) c.loop-i.invariant.early c.loop-i.invariant.left
