use Rattle.std.proofs.lemmas.Result.{err_from_is_err_and}
use Rattle.wasi_resolve.proofs.Answering.{seen_ok, seen_err}
use Rattle.wasi_resolve.proofs.resolver.stat.Goals as goal

pub returns-in_err-found-clause-modelled : goal.returns-in_err-found-clause-modelled
returns-in_err-found-clause-modelled g c modelled =
    let error = err_from_is_err_and c.from_residual.result c.from_residual.ensures.1 in
    rw (error.1, error.2) (seen_err ((g.H.Host.model c.args.host.now).held c.args.start).node c.args.path.now c.args.follow c.in_err-found.field-0.0
    (c.in_err-found.ensures.modelled modelled))

pub returns-clause-modelled : goal.returns-clause-modelled
returns-clause-modelled g c modelled =
    seen_ok _ c.args.path.now c.args.follow c.in-Metadata.metadata (rw c.in-Metadata.is at (c.in_ok-found.ensures.modelled modelled))
