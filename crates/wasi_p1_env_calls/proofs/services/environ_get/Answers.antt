use Rattle.std.proofs.Common.{refl}
use Rattle.wasi_p1_model.specs.Calls.Services.{environ_get}
use Rattle.wasi_p1_model.proofs.Taking.{refused, on_err}
use Rattle.wasi_p1_types.proofs.Texts.{unit_refused}
use Rattle.wasi_p1_env_calls.proofs.services.environ_get.Goals as goal

pub returns-in_err-environ_into-clause-spec : goal.returns-in_err-environ_into-clause-spec
unfolding environ_get
returns-in_err-environ_into-clause-spec g c =
    rw (c.in_err-environ_into.ensures.same, ← c.context.view_is) (on_err c.from_residual.ensures.1 (refused refl
    (rw (← unit_refused _ c.in_err-environ_into.ensures.specified) refl)))
