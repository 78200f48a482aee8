use Rattle.std.proofs.Common.{refl}
use Rattle.wasi_p1_model.specs.Calls.Services.{args_get}
use Rattle.wasi_p1_model.proofs.Taking.{refused, on_err}
use Rattle.wasi_p1_types.proofs.Texts.{unit_refused}
use Rattle.wasi_p1_env_calls.proofs.services.args_get.Goals as goal

pub returns-in_err-args_into-clause-spec : goal.returns-in_err-args_into-clause-spec
unfolding args_get
returns-in_err-args_into-clause-spec g c =
    rw (c.in_err-args_into.ensures.same, ← c.context.view_is) (on_err c.from_residual.ensures.1 (refused refl
    (rw (← unit_refused _ c.in_err-args_into.ensures.specified) refl)))
