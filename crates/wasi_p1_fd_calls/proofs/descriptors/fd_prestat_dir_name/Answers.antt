use Rattle.std.proofs.Common.{refl}
use Rattle.wasi_p1_model.specs.Calls.Descriptors.{fd_prestat_dir_name}
use Rattle.wasi_p1_model.proofs.Taking.{refused, on_err}
use Rattle.wasi_p1_types.proofs.Texts.{unit_refused}
use Rattle.wasi_p1_fd_calls.proofs.descriptors.fd_prestat_dir_name.Goals as goal

pub returns-in_err-put_name-clause-spec : goal.returns-in_err-put_name-clause-spec
unfolding fd_prestat_dir_name
returns-in_err-put_name-clause-spec g c =
    let given = c.in_err-put_name.ensures in
    rw (given.same, ← c.context.view_is) (on_err c.from_residual-in_err-put_name.ensures.1 (refused refl
    (rw (← c.in_ok-live_at.ensures.specified, ← c.in_ok-name.ensures.specified, ← unit_refused _ given.specified) refl)))
