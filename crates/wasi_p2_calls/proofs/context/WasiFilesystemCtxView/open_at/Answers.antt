use Rattle.std.proofs.Common.{sym}
use Rattle.std.proofs.lemmas.Result.{err_from_is_err_and}
use Rattle.wasi_p2_calls.proofs.Making.{opened_made, no_room_made, none_made, one_made}
use Rattle.wasi_p2_calls.proofs.context.WasiFilesystemCtxView.open_at.Goals as goal

pub returns-in_err-make_room-clause-call : goal.returns-in_err-make_room-clause-call
returns-in_err-make_room-clause-call g c =
    let error = err_from_is_err_and c.from_residual-in_err-make_room.result c.from_residual-in_err-make_room.ensures.1 in
    rw (error.1, error.2) (no_room_made (sym c.in_ok-dir.ensures.is) c.requires.owned c.in_err-make_room.ensures.keeps
    c.in_err-make_room.ensures.refused)

pub returns-in_err-opened-clause-call : goal.returns-in_err-opened-clause-call
returns-in_err-opened-clause-call g c =
    let error = err_from_is_err_and c.from_residual-in_err-opened.result c.from_residual-in_err-opened.ensures.1 in
    let given = c.in_err-opened.ensures in
    rw (error.1, error.2) (none_made (sym c.in_ok-dir.ensures.is) c.requires.owned c.in_ok-dir.ensures.has
    (record { keeps = c.in_ok-make_room.ensures.keeps; few = c.in_ok-make_room.ensures.few })
    (opened_made _ given.cause given.live given.provenance)
    (record { perms_are = tt; mode = tt; kind = tt; performs = record { permit = given.permit; does = given.modelled } }))

pub returns-clause-call : goal.returns-clause-call
returns-clause-call g c =
    let given = c.in_ok-opened.ensures in
    one_made c.in_ok-opened.opened (sym c.in_ok-dir.ensures.is) c.requires.owned c.in_ok-dir.ensures.has
    (record { keeps = c.in_ok-make_room.ensures.keeps; few = c.in_ok-make_room.ensures.few })
    (opened_made _ given.cause given.live given.provenance)
    (record { perms_are = given.perms; mode = given.mode; kind = given.kind; performs = record { permit = given.permit; does = given.modelled } }) c.put.ensures
