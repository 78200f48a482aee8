use Rattle.std.proofs.Common.{refl, ap, Err}
use Rattle.wasi_p1_types.specs.CallParts.{open_node_of}
use Rattle.wasi_host.specs.HostCall.{SetTimes}
use Rattle.wasi_p1_types.specs.Request.{Direct}
use Rattle.wasi_p1_model.proofs.Below.{changed_err, changed_ok}
use Rattle.wasi_p1_model.proofs.Setting.{set_ok, set_err, not_wanted}
use Rattle.wasi_p1_model.proofs.Taking.{refused, unchanged, on_err}
use Rattle.wasi_p1_model.specs.Calls.Times.{fd_filestat_set_times}
use Rattle.wasi_p1_state.proofs.Viewing.{lowered_err, lowered_ok, on_refusal}
use Rattle.wasi_p1_fd_calls.proofs.times.fd_filestat_set_times.Goals as goal

pub returns-in_err-about-clause-spec : goal.returns-in_err-about-clause-spec
unfolding fd_filestat_set_times
returns-in_err-about-clause-spec g c =
    let given = c.in_err-about.ensures in
    let lower = lowered_err _ given.cause given.did in
    let node = open_node_of (g.H.Host.model c.context.inside.fs.host).held c.in_ok-descriptor.descriptor in
    rw (given.same, ← c.context.view_is) (on_refusal lower c.from_residual-in_err-about.ensures.1 (changed_err {r = Direct (SetTimes node.node c.in_ok-times.times.atime c.in_ok-times.times.mtime)}
    (rw (← (rw c.wall.ensures.wall at c.in_ok-times.ensures.specified), ← c.in_ok-descriptor.ensures.specified) refl)
    c.context.invariant.owned refl unchanged _ lower.did.1.permit (not_wanted _ lower.did.0) (λ modelled none.
    (lower.did.1.does modelled none).keeps) (λ modelled none. set_err _ (λ is. lower.cause.io (ap Err is)) (lower.did.1.does modelled none))))

pub returns-clause-spec : goal.returns-clause-spec
unfolding fd_filestat_set_times
returns-clause-spec g c =
    let given = c.in_ok-about.ensures in
    let lower = lowered_ok _ given.did in
    let node = open_node_of (g.H.Host.model c.context.inside.fs.host).held c.in_ok-descriptor.descriptor in
    rw (given.same, ← c.context.view_is) (changed_ok {r = Direct (SetTimes node.node c.in_ok-times.times.atime c.in_ok-times.times.mtime)}
    (rw (← (rw c.wall.ensures.wall at c.in_ok-times.ensures.specified), ← c.in_ok-descriptor.ensures.specified) refl)
    c.context.invariant.owned
    unchanged tt tt lower.1.permit
    (λ modelled none. (lower.1.does modelled none).keeps) (λ modelled none. set_ok (lower.1.does modelled none)))

pub returns-in_err-times-clause-spec : goal.returns-in_err-times-clause-spec
unfolding fd_filestat_set_times
returns-in_err-times-clause-spec g c =
    rw (← c.context.view_is) (on_err c.from_residual.ensures.1 (refused refl
    (rw (← (rw c.wall.ensures.wall at c.in_err-times.ensures.specified)) refl)))
