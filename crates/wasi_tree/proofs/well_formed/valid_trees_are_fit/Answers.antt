use Rattle.wasi_tree.proofs.ValidFit.{nodes_fit, tree_again}
use Rattle.wasi_tree.proofs.well_formed.valid_trees_are_fit.Goals as goal

pub returns : goal.returns
returns c = record { fit = nodes_fit; again = tree_again }
