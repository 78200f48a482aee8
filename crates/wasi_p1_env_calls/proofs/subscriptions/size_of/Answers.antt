use Rattle.std.proofs.lemmas.Result.{err_from_is_err_and}
use Rattle.wasi_host.specs.declared.errors.HostError.TheVariants.{Code}
use Rattle.wasi_p1_model.proofs.Sizing.{size_ok, size_err}
use Rattle.wasi_p1_env_calls.proofs.subscriptions.size_of.Goals as goal

pub returns-in_err-metadata-in-FileToRead-clause-from : goal.returns-in_err-metadata-in-FileToRead-clause-from
returns-in_err-metadata-in-FileToRead-clause-from g c =
    let error = err_from_is_err_and c.from_residual.result c.from_residual.ensures.1 in
    rw error.1 (Code c.in_err-metadata-in-FileToRead.field-0.0, error.2)

pub returns-in_err-metadata-in-FileToRead-clause-modelled : goal.returns-in_err-metadata-in-FileToRead-clause-modelled
returns-in_err-metadata-in-FileToRead-clause-modelled g c = λ modelled.
    let error = err_from_is_err_and c.from_residual.result c.from_residual.ensures.1 in
    rw (error.1, error.2, c.in-FileToRead.is)
    (size_err c.stat.ensures.live c.in_err-metadata-in-FileToRead.ensures.cause.io (c.in_err-metadata-in-FileToRead.ensures.modelled modelled))

pub returns-in_ok-metadata-in-FileToRead-clause-modelled : goal.returns-in_ok-metadata-in-FileToRead-clause-modelled
returns-in_ok-metadata-in-FileToRead-clause-modelled g c = λ modelled.
    rw c.in-FileToRead.is (size_ok c.stat.ensures.live (c.in_ok-metadata-in-FileToRead.ensures.modelled modelled))
