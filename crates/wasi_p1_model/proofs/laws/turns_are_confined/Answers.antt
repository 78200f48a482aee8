use Rattle.wasi_p1_model.proofs.Confining.{turn_confines}
use Rattle.wasi_p1_model.proofs.laws.turns_are_confined.Goals as goal

pub returns : goal.returns
returns g c = record { confined = λ start old new before after call result faults faults' takes is. turn_confines takes is }
