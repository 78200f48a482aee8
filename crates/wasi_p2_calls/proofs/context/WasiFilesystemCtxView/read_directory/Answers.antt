use Rattle.std.proofs.Common.{sym}
use Rattle.std.proofs.lemmas.Result.{err_from_is_err_and}
use Rattle.wasi_p2_calls.proofs.Making.{listed_made, no_room_made, none_made, one_made}
use Rattle.wasi_p2_calls.proofs.context.WasiFilesystemCtxView.read_directory.Goals as goal

pub returns-in_err-make_room-clause-call : goal.returns-in_err-make_room-clause-call
returns-in_err-make_room-clause-call g c =
    let error = err_from_is_err_and c.from_residual-in_err-make_room.result c.from_residual-in_err-make_room.ensures.1 in
    rw (error.1, error.2) (no_room_made (sym c.in_ok-dir.ensures.is) c.requires.owned c.in_err-make_room.ensures.keeps
    c.in_err-make_room.ensures.refused)

pub returns-in_err-entries-clause-call : goal.returns-in_err-entries-clause-call
returns-in_err-entries-clause-call g c =
    let error = err_from_is_err_and c.from_residual-in_err-entries.result c.from_residual-in_err-entries.ensures.1 in
    let given = c.in_err-entries.ensures in
    rw (error.1, error.2) (none_made (sym c.in_ok-dir.ensures.is) c.requires.owned c.in_ok-dir.ensures.has
    (record { keeps = c.in_ok-make_room.ensures.keeps; few = c.in_ok-make_room.ensures.few })
    (listed_made _ given.cause given.live given.provenance)
    ((tt, record { permit = tt; does = λ modelled none. given.modelled modelled })))

pub returns-clause-call : goal.returns-clause-call
returns-clause-call g c =
    let given = c.in_ok-entries.ensures in
    one_made c.in_ok-entries.entries (sym c.in_ok-dir.ensures.is) c.requires.owned c.in_ok-dir.ensures.has
    (record { keeps = c.in_ok-make_room.ensures.keeps; few = c.in_ok-make_room.ensures.few })
    (listed_made _ given.cause given.live given.provenance)
    ((given.names, record { permit = tt; does = λ modelled none. given.modelled modelled })) c.put.ensures
