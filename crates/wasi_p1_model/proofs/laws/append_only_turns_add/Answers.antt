use Rattle.wasi_p1_model.proofs.Permitting.{turned_adds}
use Rattle.wasi_p1_model.proofs.laws.append_only_turns_add.Goals as goal

pub returns : goal.returns
returns c = record { add = turned_adds }
