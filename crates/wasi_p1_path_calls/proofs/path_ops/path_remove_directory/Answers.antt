use Rattle.std.proofs.Common.{refl}
use Rattle.wasi_resolve.specs.EntryOps.{RemoveDir}
use Rattle.wasi_resolve.specs.PathRequest.{AtEntry}
use Rattle.wasi_p1_model.proofs.Below.{done_err, done_ok}
use Rattle.wasi_p1_model.specs.Calls.PathOps.{path_remove_directory}
use Rattle.wasi_p1_state.proofs.Viewing.{lowered_err, lowered_ok, on_refusal}
use Rattle.wasi_p1_path_calls.proofs.path_ops.path_remove_directory.Goals as goal

pub returns-in_err-below-clause-spec : goal.returns-in_err-below-clause-spec
unfolding path_remove_directory
returns-in_err-below-clause-spec g c =
    let given = c.in_err-below.ensures in
    let lower = lowered_err _ given.cause given.did in
    rw (given.same, ← c.context.view_is) (on_refusal lower c.from_residual-in_err-below.ensures.1 (done_err
    (AtEntry _ _ RemoveDir) (rw (← c.in_ok-dir.ensures.specified, ← c.in_ok-text.ensures.specified) refl) c.context.invariant.owned _
    lower.cause lower.did.permit refl refl lower.did.does))

pub returns-clause-spec : goal.returns-clause-spec
unfolding path_remove_directory
returns-clause-spec g c =
    let given = c.in_ok-below.ensures in
    let lower = lowered_ok _ given.did in
    rw (given.same, ← c.context.view_is) (done_ok (AtEntry _ _ RemoveDir)
    (rw (← c.in_ok-dir.ensures.specified, ← c.in_ok-text.ensures.specified) refl) c.context.invariant.owned
    tt lower.permit lower.does)
