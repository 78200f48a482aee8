use Rattle.wasi_tree_index.proofs.NamesLemmas.{insert-remove}
use Rattle.wasi_tree_index.proofs.name_index.names_are_apart.Goals as goal

pub returns : goal.returns
returns c = insert-remove
