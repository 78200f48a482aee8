use Rattle.std.proofs.Common.{refl}
use Rattle.wasi_p1_model.specs.Calls.Services.{clock_time_get}
use Rattle.wasi_p1_model.proofs.Taking.{refused, on_err}
use Rattle.wasi_p1_env_calls.proofs.services.clock_time_get.Goals as goal

pub returns-in_err-clock_time-clause-spec : goal.returns-in_err-clock_time-clause-spec
unfolding clock_time_get
returns-in_err-clock_time-clause-spec g c =
    rw (← c.context.view_is) (on_err c.from_residual.ensures.1 (refused refl (rw (← c.in_err-clock_time.ensures.specified)
    refl)))
