use Rattle.wasi_p1_model.proofs.InReach.{runs_same, reach_is_one}
use Rattle.wasi_p1_model.proofs.laws.runs_agree.Goals as goal

pub returns : goal.returns
returns c = record { agree = λ old new calls turns run. runs_same old new calls turns run; reach = reach_is_one }
