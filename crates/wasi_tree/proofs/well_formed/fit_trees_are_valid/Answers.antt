use Rattle.wasi_tree.proofs.FitValid.{fit_is_valid}
use Rattle.wasi_tree.proofs.well_formed.fit_trees_are_valid.Goals as goal

pub returns : goal.returns
returns c = record { valid = fit_is_valid }
