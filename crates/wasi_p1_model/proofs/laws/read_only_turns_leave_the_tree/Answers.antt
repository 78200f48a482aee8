use Rattle.wasi_p1_model.proofs.Permitting.{turned_permits}
use Rattle.wasi_p1_model.proofs.laws.read_only_turns_leave_the_tree.Goals as goal

pub returns : goal.returns
returns c = record { leave = turned_permits }
