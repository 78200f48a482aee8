use Rattle.std.proofs.Common.{sym, ◌∙◌}
use Rattle.std.proofs.lemmas.Result.{err_from_is_err_and}
use Rattle.wasi_resolve.proofs.Parenting.{placed_none, placed_start, placed_ok, placed_err, placed_bound}
use Rattle.wasi_resolve.proofs.parent.open_parent.Goals as goal

pub returns-in_default-clause-modelled : goal.returns-in_default-clause-modelled
returns-in_default-clause-modelled g c modelled = placed_none _ _ _ c.args.path.now (sym c.in_default.ensures.split)

pub returns-then-is_empty-clause-modelled : goal.returns-then-is_empty-clause-modelled
returns-then-is_empty-clause-modelled g c modelled =
    placed_start _ _ c.args.start c.args.path.now c.last_name-name.result (sym c.in-Some.ensures.split)
    (sym c.is_empty.ensures ∙ c.if-is_empty.true) c.last_name-name.ensures

pub returns-clause-modelled : goal.returns-clause-modelled
returns-clause-modelled g c modelled =
    placed_ok _ c.args.path.now _ _ (sym c.in-Some.ensures.split) (sym c.is_empty.ensures ∙ c.if-is_empty.false)
    c.in_ok-directory.directory c.last_name-name.result c.last_name-name.ensures (c.in_ok-directory.ensures.modelled modelled)

pub returns-in_err-directory-clause-modelled : goal.returns-in_err-directory-clause-modelled
returns-in_err-directory-clause-modelled g c modelled =
    let error = err_from_is_err_and c.from_residual.result c.from_residual.ensures.1 in
    rw (error.1, error.2) (placed_err _ c.args.path.now _ _ (sym c.in-Some.ensures.split) (sym c.is_empty.ensures
    ∙ c.if-is_empty.false) c.in_err-directory.field-0.0
    (c.in_err-directory.ensures.modelled modelled))

pub returns-clause-bound : goal.returns-clause-bound
returns-clause-bound g c modelled =
    placed_bound _ _ c.args.path.now (sym c.in-Some.ensures.split) _ _ (sym c.is_empty.ensures ∙ c.if-is_empty.false)
    (c.in_ok-directory.ensures.bound modelled)

pub returns-in_err-directory-clause-bound : goal.returns-in_err-directory-clause-bound
returns-in_err-directory-clause-bound g c modelled =
    placed_bound _ _ c.args.path.now (sym c.in-Some.ensures.split) _ _ (sym c.is_empty.ensures ∙ c.if-is_empty.false)
    (c.in_err-directory.ensures.bound modelled)
