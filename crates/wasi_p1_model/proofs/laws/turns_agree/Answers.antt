use Rattle.wasi_p1_model.proofs.Alike.{turn_alike}
use Rattle.wasi_p1_model.proofs.InReach.{alike_in_reach}
use Rattle.wasi_p1_model.proofs.laws.turns_agree.Goals as goal

pub returns : goal.returns
returns c = record { agree = λ s s' call agrees. turn_alike (alike_in_reach agrees) call }
