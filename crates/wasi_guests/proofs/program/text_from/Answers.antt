use Rattle.std.proofs.lemmas.Result.{err_from_is_err_and}
use Rattle.wasi_guests.proofs.TopLemmas.{gives_none}
use Rattle.wasi_guests.proofs.program.text_from.Goals as goal

pub returns-in_err-text_of-clause-gives : goal.returns-in_err-text_of-clause-gives
returns-in_err-text_of-clause-gives g c = λ modelled.
    let residual = c.from_residual-in_err-text_of in
    let error = err_from_is_err_and residual.result residual.ensures.1 in
    let read = c.in_ok-script.ensures.read modelled in
    rw (error.1, error.2) (gives_none _ read.0 read.1 c.in_err-text_of.ensures)

pub returns-in_err-text_of-clause-some : goal.returns-in_err-text_of-clause-some
returns-in_err-text_of-clause-some g c =
    let residual = c.from_residual-in_err-text_of in
    let error = err_from_is_err_and residual.result residual.ensures.1 in
    let (left, rest, read) = c.in_ok-script.ensures.some in
    rw (error.1, error.2) (left, rest, gives_none _ read.0 read.1 c.in_err-text_of.ensures)
