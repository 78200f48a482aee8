use Rattle.std.proofs.Common.{refl, sym, ap, true, Err, ◌∙◌}
use Rattle.wasi_fs.specs.Calls.{may_do}
use Rattle.wasi_fs.specs.declared.perms.Act.TheVariants.{Make}
use Rattle.wasi_resolve.specs.EntryOps.{CreateDir}
use Rattle.wasi_resolve.specs.PathRequest.{AtEntry}
use Rattle.wasi_p1_model.proofs.SpecEnds.{with_nothing}
use Rattle.wasi_p1_model.proofs.Taking.{on_err}
use Rattle.wasi_p1_types.specs.Request.{Path}
use Rattle.wasi_p1_types.specs.CallResult.{give}
use Rattle.wasi_p1_model.specs.Calls.PathOps.{path_create_directory}
use Rattle.wasi_p1_state.proofs.Raising.{lowered_to_err, lowered_to_ok}
use Rattle.wasi_p1_path_calls.proofs.Making.{made_at_err, made_at_ok, making_refused}
use Rattle.wasi_p1_path_calls.proofs.path_ops.path_create_directory.Goals as goal

pub returns-in_err-check_make-clause-spec : goal.returns-in_err-check_make-clause-spec
unfolding path_create_directory
returns-in_err-check_make-clause-spec g c =
    let start = ((g.H.Host.model c.context.inside.fs.host).held c.in_ok-dir.dir.dir).node in
    rw (← c.context.view_is) (on_err c.from_residual-in_err-check_make.ensures.1 (making_refused true
    (may_do c.in_ok-dir.dir.perms Make) (Path (AtEntry start c.in_ok-text.text.now CreateDir)) (λ _. give tt)
    with_nothing refl (sym c.in_err-check_make.ensures.specified)
    (rw (← c.in_ok-dir.ensures.specified, ← c.in_ok-text.ensures.specified) refl)))

pub returns-in_err-make_below-clause-spec : goal.returns-in_err-make_below-clause-spec
unfolding path_create_directory
returns-in_err-make_below-clause-spec g c =
    let given = c.in_err-make_below.ensures in
    let lower = lowered_to_err _ given.cause given.did in
    rw (given.same, ← c.context.view_is) (on_err c.from_residual-in_err-make_below.ensures.1 (rw lower.same (made_at_err _
    (AtEntry _ _ CreateDir) (rw (← c.in_ok-dir.ensures.specified, ← c.in_ok-text.ensures.specified) refl)
    (sym c.in_ok-check_make.ensures.specified) refl c.context.invariant.owned lower.error lower.cause refl lower.did.does
    (λ is. given.cause.io (ap Err (lower.same ∙ is))) (rw lower.same at given.counted))))

pub returns-clause-spec : goal.returns-clause-spec
unfolding path_create_directory
returns-clause-spec g c =
    let given = c.in_ok-make_below.ensures in
    let lower = lowered_to_ok _ given.did in
    rw (given.same, ← c.context.view_is) (made_at_ok _ (AtEntry _ _ CreateDir) (rw (← c.in_ok-dir.ensures.specified, ← c.in_ok-text.ensures.specified) refl)
    (sym c.in_ok-check_make.ensures.specified) refl c.context.invariant.owned tt lower.does given.counted)
