use Rattle.wasi_host.proofs.ValidSteps.{valid-step}
use Rattle.wasi_host.proofs.laws.steps_keep_trees_valid.Goals as goal

pub returns : goal.returns
returns c = record { valid = valid-step }
