use Rattle.std.proofs.Common.{refl, sym}
use Rattle.std.proofs.lemmas.Result.{err_from_is_err_and}
use Rattle.wasi_streams.specs.declared.entry.Entry.TheVariants.{Input}
use Rattle.wasi_p2_calls.proofs.Making.{doubled_made, no_room_made, none_made, one_made}
use Rattle.wasi_p2_calls.proofs.context.WasiFilesystemCtxView.read_via_stream.Goals as goal

pub returns-in_err-make_room-clause-call : goal.returns-in_err-make_room-clause-call
returns-in_err-make_room-clause-call g c =
    let error = err_from_is_err_and c.from_residual-in_err-make_room.result c.from_residual-in_err-make_room.ensures.1 in
    rw (error.1, error.2) (no_room_made (sym c.in_ok-file.ensures.is) c.requires.owned c.in_err-make_room.ensures.keeps
    c.in_err-make_room.ensures.refused)

pub returns-in_err-stream-clause-call : goal.returns-in_err-stream-clause-call
returns-in_err-stream-clause-call g c =
    let error = err_from_is_err_and c.from_residual-in_err-stream.result c.from_residual-in_err-stream.ensures.1 in
    let given = c.in_err-stream.ensures in
    rw (error.1, error.2) (none_made (sym c.in_ok-file.ensures.is) c.requires.owned c.in_ok-file.ensures.has
    (record { keeps = c.in_ok-make_room.ensures.keeps; few = c.in_ok-make_room.ensures.few })
    (doubled_made Input (λ s. s.file) (λ s. refl) _ given.cause given.live given.logged)
    ((tt, given.modelled)))

pub returns-clause-call : goal.returns-clause-call
returns-clause-call g c =
    let given = c.in_ok-stream.ensures in
    one_made c.in_ok-stream.stream (sym c.in_ok-file.ensures.is) c.requires.owned c.in_ok-file.ensures.has
    (record { keeps = c.in_ok-make_room.ensures.keeps; few = c.in_ok-make_room.ensures.few })
    (doubled_made Input (λ s. s.file) (λ s. refl) _ given.cause given.live given.logged)
    (((given.position, given.state), given.modelled)) c.put.ensures
