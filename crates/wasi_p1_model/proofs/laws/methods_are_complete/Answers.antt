use Rattle.wasi_p1_model.proofs.Completing.{turn_completes}
use Rattle.wasi_p1_model.proofs.laws.methods_are_complete.Goals as goal

pub returns : goal.returns
returns g c = record {
  complete = λ old new before after call result does modelled never valid.
      turn_completes result (does.turn modelled) does.wants never valid;
}
