use Rattle.wasi_report.proofs.TrialReadBack.{determined}
use Rattle.wasi_report.proofs.laws.trials_are_determined.Goals as goal

pub returns : goal.returns
returns c = record { determined = determined }
