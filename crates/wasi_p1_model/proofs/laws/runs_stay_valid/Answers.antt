use Rattle.wasi_p1_model.proofs.Validity.{run_valid}
use Rattle.wasi_p1_model.proofs.laws.runs_stay_valid.Goals as goal

pub returns : goal.returns
returns c = record { valid = run_valid }
