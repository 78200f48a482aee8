use Rattle.std.proofs.lemmas.Result.{err_from_is_err_and}
use Rattle.wasi_p2_calls.proofs.Giving.{dup_not}
use Rattle.wasi_p2_calls.proofs.preopens.give_one.Goals as goal

pub returns-in_err-handle-clause-given : goal.returns-in_err-handle-clause-given
returns-in_err-handle-clause-given g c =
    let error = err_from_is_err_and c.from_residual-in_err-handle.result c.from_residual-in_err-handle.ensures.1 in
    let given = c.in_err-handle.ensures in
    rw (error.1, error.2) (dup_not _ c.in_ok-make_room.ensures.keeps given.live given.logged given.modelled)
