use Rattle.std.proofs.Common.{[], Ok, Err}
use Rattle.std.proofs.lemmas.List.Elements.{Contains-push}
use Rattle.std.proofs.lemmas.Result.{err_from_is_err_and}
use Rattle.wasi_host.specs.HostCall.{Stat}
use Rattle.wasi_host.specs.declared.errors.HostError.TheVariants.{Code}
use Rattle.wasi_fs.proofs.Once.{once}
use Rattle.wasi_fs.proofs.descriptor.Descriptor.metadata.Goals as goal

pub returns-in_err-stat-clause-modelled : goal.returns-in_err-stat-clause-modelled
returns-in_err-stat-clause-modelled g c = λ modelled.
    let error = err_from_is_err_and c.from_residual.result c.from_residual.ensures.1 in
    rw (error.1, error.2, ← c.handle.ensures.handle) (once (Stat _) _ (Err (Code c.in_err-stat.field-0.0))
    (Contains-push [] _) c.stat.ensures.live (c.in_err-stat.ensures.modelled modelled))

pub returns-clause-modelled : goal.returns-clause-modelled
returns-clause-modelled g c = λ modelled.
    rw (← c.handle.ensures.handle)
    (once (Stat _) _ (Ok _) (Contains-push [] _) c.stat.ensures.live (c.in_ok-stat.ensures.modelled modelled))
