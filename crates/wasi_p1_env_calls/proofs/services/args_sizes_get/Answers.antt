use Rattle.std.proofs.Common.{refl}
use Rattle.wasi_p1_model.specs.Calls.Services.{args_sizes_get}
use Rattle.wasi_p1_model.proofs.Taking.{refused, on_err}
use Rattle.wasi_p1_env_calls.proofs.services.args_sizes_get.Goals as goal

pub returns-in_err-args_sizes-clause-spec : goal.returns-in_err-args_sizes-clause-spec
unfolding args_sizes_get
returns-in_err-args_sizes-clause-spec g c =
    rw (← c.context.view_is) (on_err c.from_residual.ensures.1 (refused refl (rw (← c.in_err-args_sizes.ensures.specified)
    refl)))
