use Rattle.wasi_tree_index.proofs.OverLemmas.{get-overlaid}
use Rattle.wasi_tree_index.proofs.over_index.names_lie_over.Goals as goal

pub returns : goal.returns
returns c = get-overlaid
