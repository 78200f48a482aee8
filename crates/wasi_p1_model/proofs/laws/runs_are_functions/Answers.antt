use Rattle.wasi_p1_model.proofs.RunLaws.{one_run}
use Rattle.wasi_p1_model.proofs.laws.runs_are_functions.Goals as goal

pub returns : goal.returns
returns c = record { one_run = λ old calls. one_run calls old }
