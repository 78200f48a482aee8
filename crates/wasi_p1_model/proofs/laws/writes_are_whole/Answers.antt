use Rattle.wasi_p1_model.proofs.Writing.{writes_whole}
use Rattle.wasi_p1_model.proofs.laws.writes_are_whole.Goals as goal

pub returns : goal.returns
returns c = record { whole = writes_whole }
