use Rattle.std.proofs.Common.{Err, inl, inr, refl, ap}
use Rattle.wasi_resolve.specs.PathRequest.{LookPath}
use Rattle.wasi_p1_types.specs.Request.{Path}
use Rattle.wasi_p1_types.specs.Filestats.{stat_both, filestat_in}
use Rattle.wasi_p1_model.proofs.SpecEnds.{with_filestat}
use Rattle.wasi_p1_model.proofs.Resolving.{made_ok, made_not}
use Rattle.wasi_p1_model.proofs.Stating.{stated_reply, stated_again}
use Rattle.wasi_p1_model.proofs.Taking.{makes_err, makes_ok, unchanged, on_err}
use Rattle.wasi_p1_model.specs.Calls.PathOps.{path_filestat_get}
use Rattle.wasi_p1_state.proofs.ViewedStats.{shown_spec}
use Rattle.wasi_p1_state.proofs.Viewing.{lowered_err, lowered_shown, on_refusal}
use Rattle.wasi_p1_path_calls.proofs.path_ops.path_filestat_get.Goals as goal

pub returns-in_err-both-clause-spec : goal.returns-in_err-both-clause-spec
unfolding path_filestat_get
returns-in_err-both-clause-spec g c =
    let given = c.in_err-both.ensures in
    let lower = lowered_err _ given.cause given.did in
    rw (given.same, ← c.context.view_is) (on_refusal lower c.from_residual-in_err-both.ensures.1 (makes_err {r = Path (LookPath _ _ _)} (λ metadata. filestat_in
    (stat_both metadata)) with_filestat
    (rw (← c.in_ok-flags.ensures.specified, ← c.in_ok-dir.ensures.specified, ← c.in_ok-text.ensures.specified) refl)
    c.context.invariant.owned (inl (_, refl)) (λ _. refl)
    refl unchanged (λ modelled. record {
      keeps = (lower.did.1.does modelled refl).keeps;
      does = inl (made_not (Path (LookPath _ _ _)) stat_both _ (λ is. lower.cause.io (ap Err is)) (lower.did.1.does modelled refl));
    })))

pub returns-in_err-filestat-clause-spec : goal.returns-in_err-filestat-clause-spec
unfolding path_filestat_get
returns-in_err-filestat-clause-spec g c =
    let given = c.in_ok-both.ensures in
    let shown = lowered_shown _ given.did in
    rw (given.same, ← c.context.view_is) (on_err c.from_residual-in_err-filestat.ensures.1 (makes_err {r = Path (LookPath _ _ _)} (λ metadata. filestat_in
    (stat_both metadata)) with_filestat
    (rw (← c.in_ok-flags.ensures.specified, ← c.in_ok-dir.ensures.specified, ← c.in_ok-text.ensures.specified) refl)
    c.context.invariant.owned (inr (stated_reply shown.2.0 (shown_spec shown.0 shown.1 c.in_err-filestat.ensures.specified))) (λ _. refl)
    refl unchanged (λ modelled. record {
      keeps = (shown.2.1.does modelled refl).keeps;
      does = inr (stated_again (made_ok (Path (LookPath _ _ _)) stat_both (shown.2.1.does modelled refl))
          (shown_spec shown.0 shown.1 c.in_err-filestat.ensures.specified));
    })))

pub returns-clause-spec : goal.returns-clause-spec
unfolding path_filestat_get
returns-clause-spec g c =
    let given = c.in_ok-both.ensures in
    let shown = lowered_shown _ given.did in
    rw (given.same, ← c.context.view_is) (makes_ok {r = Path (LookPath _ _ _)} (λ metadata. filestat_in (stat_both metadata)) with_filestat
    (rw (← c.in_ok-flags.ensures.specified, ← c.in_ok-dir.ensures.specified, ← c.in_ok-text.ensures.specified) refl)
    c.context.invariant.owned refl (stated_reply shown.2.0 (shown_spec shown.0 shown.1 c.in_ok-filestat.ensures.specified)) refl refl (λ modelled. record {
      keeps = (shown.2.1.does modelled refl).keeps;
      does = stated_again (made_ok (Path (LookPath _ _ _)) stat_both (shown.2.1.does modelled refl)) (shown_spec shown.0 shown.1 c.in_ok-filestat.ensures.specified);
    }))
