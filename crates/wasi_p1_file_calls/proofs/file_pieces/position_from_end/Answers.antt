use Rattle.std.proofs.Common.{inl, inr, sym}
use Rattle.std.proofs.lemmas.Int.{to_z-of_z}
use Rattle.std.proofs.lemmas.Result.{err_from_is_err_and}
use Rattle.wasi_host.specs.declared.errors.HostError.TheVariants.{Code}
use Rattle.wasi_p1_model.proofs.Reading.{told_ok, told_err, told_refused}
use Rattle.wasi_p1_file_calls.proofs.file_pieces.position_from_end.Goals as goal

pub returns-in_err-metadata-clause-front : goal.returns-in_err-metadata-clause-front
returns-in_err-metadata-clause-front g c =
    let error = err_from_is_err_and c.from_residual.result c.from_residual.ensures.1 in
    rw error.1 (inl (Code c.in_err-metadata.field-0.0, error.2))

pub returns-in_err-metadata-clause-modelled : goal.returns-in_err-metadata-clause-modelled
returns-in_err-metadata-clause-modelled g c = λ modelled.
    let error = err_from_is_err_and c.from_residual.result c.from_residual.ensures.1 in
    rw (error.1, error.2) (told_err c.stat.ensures.live (Code c.in_err-metadata.field-0.0)
    c.in_err-metadata.ensures.cause.io (c.in_err-metadata.ensures.modelled modelled))

pub returns-in_err-position-clause-front : goal.returns-in_err-position-clause-front
returns-in_err-position-clause-front g c =
    let residual = c.from_residual-in_err-position in
    let error = err_from_is_err_and residual.result residual.ensures.1 in
    rw (error.1, error.2) (inr (c.in_ok-metadata.metadata, tt, sym (simp (to_z-of_z, c.ranges.offset) at c.in_err-position.ensures.specified)))

pub returns-in_err-position-clause-modelled : goal.returns-in_err-position-clause-modelled
returns-in_err-position-clause-modelled g c = λ modelled.
    let residual = c.from_residual-in_err-position in
    let error = err_from_is_err_and residual.result residual.ensures.1 in
    rw (error.1, error.2) (told_refused c.stat.ensures.live (c.in_ok-metadata.ensures.modelled modelled)
    (sym (simp (to_z-of_z, c.ranges.offset) at c.in_err-position.ensures.specified)))

pub returns-clause-front : goal.returns-clause-front
returns-clause-front g c = (c.in_ok-metadata.metadata, tt, sym (simp (to_z-of_z, c.ranges.offset) at c.in_ok-position.ensures.specified))

pub returns-clause-modelled : goal.returns-clause-modelled
returns-clause-modelled g c = λ modelled. told_ok c.stat.ensures.live (c.in_ok-metadata.ensures.modelled modelled)
    (sym (simp (to_z-of_z, c.ranges.offset) at c.in_ok-position.ensures.specified))
