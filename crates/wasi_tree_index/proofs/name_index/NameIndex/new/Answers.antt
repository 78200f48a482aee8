use Rattle.wasi_tree_index.proofs.NamesLemmas.{from_sorted-none}
use Rattle.wasi_tree_index.proofs.name_index.NameIndex.new.Goals as goal

pub returns : goal.returns
returns c = rw c.new.ensures.items from_sorted-none
