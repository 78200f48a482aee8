use Rattle.std.proofs.Common.{◌≡◌, true, arith, inr, length-append, refl}
use Rattle.std.specs.FinSet.{contains}
use Rattle.std.proofs.lemmas.List.Elements.{All-nil, All-push}
use Rattle.std.proofs.lemmas.Result.{err_from_is_err_and}
use Rattle.wasi_p1_types.specs.Polling.{OfReading}
use Rattle.wasi_p1_model.proofs.Judging.{none_kept, one_kept, all_kept, first_refused}
use Rattle.wasi_p1_env_calls.proofs.subscriptions.all_waited.Goals as goal

pub loop-i-init : goal.loop-i-init
loop-i-init g c = record {
  next = omega arith;
  count = rw c.in_ok-all.ensures.items refl;
  live = rw c.in_ok-all.ensures.items (All-nil (λ w. OfReading (λ file. contains (g.H.Host.live c.args.host.now) file ≡ true) w.what));
  left = none_kept (g.H.Host.model c.args.host.now).held _ _ _ _ _ _ c.in_ok-all.ensures.items;
}

pub returns-in_err-waited-clause-wants : goal.returns-in_err-waited-clause-wants
returns-in_err-waited-clause-wants g c =
    let residual = c.from_residual-in_err-waited in
    let error = err_from_is_err_and residual.result residual.ensures.1 in
    rw (error.1, error.2) (inr (first_refused (omega arith) c.in_err-waited.ensures.specified c.loop-i.invariant.left))

pub loop-i-preserved : goal.loop-i-preserved
loop-i-preserved g c = record {
  next = omega (arith, c.in_ok-waited.ensures.next);
  count = rw (c.in_ok-push_waited.ensures, length-append) (omega (arith, c.loop-i.invariant.count));
  live = rw c.in_ok-push_waited.ensures (All-push (λ w. OfReading (λ file. contains (g.H.Host.live c.args.host.now) file ≡ true) w.what) _ _ c.loop-i.invariant.live c.in_ok-waited.ensures.live);
  left = rw c.in_ok-push_waited.ensures (one_kept (g.H.Host.model c.args.host.now).held c.loop-i.all.items c.in_ok-waited.waited (omega arith)
      c.in_ok-waited.ensures.specified c.loop-i.invariant.left);
}

pub returns-clause-specified : goal.returns-clause-specified
returns-clause-specified g c = all_kept (g.H.Host.model c.args.host.now).held c.loop-i.all.items (omega arith) c.loop-i.invariant.left
