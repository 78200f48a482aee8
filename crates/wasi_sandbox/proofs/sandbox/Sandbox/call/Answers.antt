use Rattle.std.proofs.Common.{refl}
use Rattle.wasi_sandbox.specs.Calling.{has_ended, is_made}
use Rattle.wasi_sandbox.proofs.sandbox.Sandbox.call.Goals as goal

pub returns-in-Some : goal.returns-in-Some
returns-in-Some g c = record { called = rw c.error.ensures (has_ended c.in-Some.is refl refl) }

pub returns : goal.returns
returns g c = record { called = is_made c.make.ensures.called }
