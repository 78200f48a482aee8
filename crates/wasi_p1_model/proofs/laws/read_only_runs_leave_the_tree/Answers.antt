use Rattle.wasi_p1_model.proofs.Permitting.{run_leaves}
use Rattle.wasi_p1_model.proofs.laws.read_only_runs_leave_the_tree.Goals as goal

pub returns : goal.returns
returns c = record { leave = run_leaves }
