use Rattle.std.specs.Prelude.{refl}
use Rattle.wasi_host.proofs.Times.{zero_time-is}
use Rattle.wasi_host.proofs.laws.epoch_is.Goals as goal

pub returns : goal.returns
returns c = record { epoch = zero_time-is _ refl refl }
