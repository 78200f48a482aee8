use Rattle.std.proofs.Common.{inl, refl}
use Rattle.std.proofs.lemmas.Result.{err_from_is_err_and}
use Rattle.wasi_host.specs.declared.errors.ErrorCode.TheVariants.{Io}
use Rattle.wasi_host.specs.declared.errors.HostError.TheVariants.{Code}
use Rattle.wasi_p1_model.proofs.Reading.{told_ok, told_err}
use Rattle.wasi_p1_file_calls.proofs.transfer.write_piece.Goals as goal

pub returns-in_err-count-clause-modelled : goal.returns-in_err-count-clause-modelled
returns-in_err-count-clause-modelled g c = λ modelled.
    let error = err_from_is_err_and c.from_residual.result c.from_residual.ensures.1 in
    rw (error.1, error.2) (told_err c.pwrite.ensures.live _ c.in_err-count.ensures.cause.io
    (c.in_err-count.ensures.modelled modelled))

pub returns-then-not-is_empty-clause-front : goal.returns-then-not-is_empty-clause-front
returns-then-not-is_empty-clause-front g c = inl (Code Io, refl)

pub returns-clause-modelled : goal.returns-clause-modelled
returns-clause-modelled g c = λ modelled. told_ok c.pwrite.ensures.live (c.in_ok-count.ensures.modelled modelled) refl
