use Rattle.std.proofs.Common.{[], Ok, Err}
use Rattle.std.proofs.lemmas.List.Elements.{Contains-push}
use Rattle.std.proofs.lemmas.Result.{err_from_is_err_and}
use Rattle.wasi_host.specs.HostCall.{Advise}
use Rattle.wasi_host.specs.declared.errors.HostError.TheVariants.{Code}
use Rattle.wasi_fs.proofs.Once.{once}
use Rattle.wasi_fs.proofs.descriptor.File.advise.Goals as goal

pub returns-in_err-advise-clause-modelled : goal.returns-in_err-advise-clause-modelled
returns-in_err-advise-clause-modelled g c = λ modelled.
    let error = err_from_is_err_and c.from_residual.result c.from_residual.ensures.1 in
    rw (error.1, error.2) (once (Advise _ _ _ _) _ (Err (Code c.in_err-advise.field-0.0)) (Contains-push [] _)
    c.advise.ensures.live (c.in_err-advise.ensures.modelled modelled))

pub returns-clause-modelled : goal.returns-clause-modelled
returns-clause-modelled g c = λ modelled.
    once (Advise _ _ _ _) _ (Ok tt) (Contains-push [] _) c.advise.ensures.live (c.in_ok-advise.ensures.modelled modelled)
