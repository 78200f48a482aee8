use Rattle.std.proofs.Common.{ap}
use Rattle.std.proofs.lemmas.Result.{err_from_is_err_and}
use Rattle.wasi_fs.proofs.Looking.{compares_ok, compares_here, compares_there}
use Rattle.wasi_fs.proofs.descriptor.Descriptor.is_same_object.Goals as goal

pub returns-in_err-here-clause-modelled : goal.returns-in_err-here-clause-modelled
returns-in_err-here-clause-modelled g c = λ modelled.
    let error = err_from_is_err_and c.from_residual.result c.from_residual.ensures.1 in
    rw (error.1, error.2) (compares_here _ _ (c.in_err-here.ensures.modelled modelled))

pub returns-in_err-there-clause-modelled : goal.returns-in_err-there-clause-modelled
returns-in_err-there-clause-modelled g c = λ modelled.
    let first = c.in_ok-here.ensures.modelled modelled in
    let error = err_from_is_err_and c.from_residual-in_err-there.result c.from_residual-in_err-there.ensures.1 in
    rw (error.1, error.2) (compares_there c.metadata.ensures.live
    (ap (λ h. h.node) (first.keeps _ c.requires.other_live)) first _ (c.in_err-there.ensures.modelled modelled))

pub returns-clause-modelled : goal.returns-clause-modelled
returns-clause-modelled g c = λ modelled.
    let first = c.in_ok-here.ensures.modelled modelled in
    rw (c.ino.ensures.value, c.ino-2.ensures.value) (compares_ok c.metadata.ensures.live
    (ap (λ h. h.node) (first.keeps _ c.requires.other_live)) first (c.in_ok-there.ensures.modelled modelled))
