use Rattle.std.proofs.Common.{refl, ap, None, Err}
use Rattle.wasi_host.specs.HostCall.{Sync}
use Rattle.wasi_p1_types.specs.Request.{Direct}
use Rattle.wasi_p1_model.specs.Calls.PositionsAndSizes.{fd_datasync}
use Rattle.wasi_p1_model.proofs.Below.{changed_err, changed_ok}
use Rattle.wasi_p1_model.proofs.Setting.{called_ok, called_err, not_wanted}
use Rattle.wasi_p1_model.proofs.Taking.{unchanged}
use Rattle.wasi_p1_state.proofs.Viewing.{lowered_err, lowered_ok, on_refusal}
use Rattle.wasi_p1_file_calls.proofs.positions_and_sizes.fd_datasync.Goals as goal

pub returns-in_err-about_file-clause-spec : goal.returns-in_err-about_file-clause-spec
unfolding fd_datasync
returns-in_err-about_file-clause-spec g c =
    let given = c.in_err-about_file.ensures in
    let lower = lowered_err _ given.cause given.did in
    rw (given.same, ← c.context.view_is) (on_refusal lower c.from_residual-in_err-about_file.ensures.1 (changed_err {own = None} {r = Direct (Sync _)}
    (rw (← c.in_ok-slot.ensures.specified) refl) c.context.invariant.owned refl unchanged _ tt (not_wanted _ lower.did.0)
    (λ modelled _. (lower.did.1.does modelled refl).keeps)
    (λ modelled _. called_err _ (λ is. lower.cause.io (ap Err is)) (lower.did.1.does modelled refl))))

pub returns-clause-spec : goal.returns-clause-spec
unfolding fd_datasync
returns-clause-spec g c =
    let given = c.in_ok-about_file.ensures in
    let lower = lowered_ok _ given.did in
    rw (given.same, ← c.context.view_is) (changed_ok {own = None} {r = Direct (Sync _)} (rw (← c.in_ok-slot.ensures.specified) refl)
    c.context.invariant.owned unchanged tt tt tt (λ modelled _. (lower.1.does modelled refl).keeps) (λ modelled _. called_ok refl (lower.1.does modelled refl)))
