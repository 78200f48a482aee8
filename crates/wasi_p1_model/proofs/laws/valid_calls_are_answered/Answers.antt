use Rattle.wasi_p1_model.proofs.Completing.{run_completes}
use Rattle.wasi_p1_model.proofs.laws.valid_calls_are_answered.Goals as goal

pub returns : goal.returns
returns c = record { complete = λ k old new calls turns run. run_completes calls turns k old new run }
