use Rattle.std.proofs.Common.{Err, inl, inr, refl, ap}
use Rattle.std.proofs.lemmas.Result.{err_from_is_err_and}
use Rattle.wasi_p1_types.specs.Filestats.{stat_both}
use Rattle.wasi_p1_model.proofs.LookingAt.{seen_err, seen_ok}
use Rattle.wasi_p1_model.proofs.Stating.{stated_again, stated_reply}
use Rattle.wasi_p1_state.proofs.ViewedStats.{look_refused, shown_spec}
use Rattle.wasi_p1_state.proofs.Viewing.{lowered_err, lowered_shown}
use Rattle.wasi_p1_fd_calls.proofs.stat.node_filestat.Goals as goal

pub returns-in_err-both-clause-makes : goal.returns-in_err-both-clause-makes
returns-in_err-both-clause-makes g c =
    let lower = lowered_err _ c.in_err-both.ensures.cause c.in_err-both.ensures.did in
    look_refused lower c.from_residual.ensures.1 lower.did.0 (λ modelled. let did = lower.did.2.does modelled refl in record {
      keeps = did.keeps;
      does = inl (seen_err stat_both _ (λ is. lower.cause.io (ap Err is)) did);
    })

pub returns-in_err-filestat-clause-makes : goal.returns-in_err-filestat-clause-makes
returns-in_err-filestat-clause-makes g c =
    let shown = lowered_shown _ c.in_ok-both.ensures.did in
    let specified = shown_spec shown.0 shown.1 c.in_err-filestat.ensures.specified in
    let residual = c.from_residual-in_err-filestat in
    let error = err_from_is_err_and residual.result residual.ensures.1 in
    rw (error.1, error.2) (record {
      never_wants = c.in_err-filestat.ensures.never_wants;
      front = inr (stated_reply shown.2.1 specified);
      modelled = λ modelled. let did = shown.2.2.does modelled refl in record {
        keeps = did.keeps;
        does = inr (stated_again (seen_ok stat_both did) specified);
      };
    })

pub returns-clause-makes : goal.returns-clause-makes
returns-clause-makes g c =
    let shown = lowered_shown _ c.in_ok-both.ensures.did in
    let specified = shown_spec shown.0 shown.1 c.in_ok-filestat.ensures.specified in record {
      never_wants = tt;
      front = stated_reply shown.2.1 specified;
      modelled = λ modelled. let did = shown.2.2.does modelled refl in record {
        keeps = did.keeps;
        does = stated_again (seen_ok stat_both did) specified;
      };
    }
