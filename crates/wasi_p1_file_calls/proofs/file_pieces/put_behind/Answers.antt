use Rattle.std.proofs.Common.{◌≡◌, inl, arith, refl}
use Rattle.std.proofs.lemmas.Result.{err_from_is_err_and}
use Rattle.wasi_host.specs.declared.errors.HostError.TheVariants.{Code}
use Rattle.wasi_p1_model.proofs.Appending.{behind_err, behind_ok, behind_unseen}
use Rattle.wasi_p1_file_calls.proofs.file_pieces.put_behind.Goals as goal

pub returns-in_err-count-clause-modelled : goal.returns-in_err-count-clause-modelled
returns-in_err-count-clause-modelled g c = λ modelled.
    let error = err_from_is_err_and c.from_residual.result c.from_residual.ensures.1 in
    rw (error.1, error.2) (behind_err _ _ (c.in_err-count.ensures.modelled modelled))

pub returns-in_err-metadata-clause-front : goal.returns-in_err-metadata-clause-front
returns-in_err-metadata-clause-front g c =
    let residual = c.from_residual-in_err-metadata in
    let error = err_from_is_err_and residual.result residual.ensures.1 in
    rw error.1 (inl (Code c.in_err-metadata.field-0.0, error.2))

pub returns-in_err-metadata-clause-modelled : goal.returns-in_err-metadata-clause-modelled
returns-in_err-metadata-clause-modelled g c = λ modelled.
    let residual = c.from_residual-in_err-metadata in
    let error = err_from_is_err_and residual.result residual.ensures.1 in
    rw (error.1, error.2) (behind_unseen c.requires.live c.append_piece.ensures.live c.stat.ensures.live
    (c.in_ok-count.ensures.modelled modelled)
    (λ is. let rose = c.in_err-metadata.ensures.cause.io is in omega (arith, rose, c.append_piece.ensures.cause.later))
    (c.in_err-metadata.ensures.modelled modelled))

pub returns-clause-front : goal.returns-clause-front
returns-clause-front g c =
    let (count, may, is) = c.in_ok-count.ensures.front in
    let same : count ≡ c.in_ok-count.count = (cc) in ((count, c.in_ok-metadata.metadata), may, rw same refl)

pub returns-clause-modelled : goal.returns-clause-modelled
returns-clause-modelled g c = λ modelled. behind_ok c.requires.live c.append_piece.ensures.live c.stat.ensures.live
    (c.in_ok-count.ensures.modelled modelled) (c.in_ok-metadata.ensures.modelled modelled)
