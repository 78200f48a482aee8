use Rattle.std.proofs.Common.{refl}
use Rattle.wasi_p1_model.specs.Calls.Services.{proc_raise}
use Rattle.wasi_p1_model.proofs.Taking.{refused, on_err}
use Rattle.wasi_p1_env_calls.proofs.services.proc_raise.Goals as goal

pub returns-in_err-known_signal-clause-spec : goal.returns-in_err-known_signal-clause-spec
unfolding proc_raise
returns-in_err-known_signal-clause-spec g c =
    on_err c.from_residual.ensures.1 (refused refl (rw (← c.in_err-known_signal.ensures.specified) refl))
