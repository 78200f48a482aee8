use Rattle.std.proofs.Common.{◌∙◌, refl, ap}
use Rattle.wasi_host.specs.Tree.{default_bits}
use Rattle.wasi_host.proofs.Times.{zero_time-is}
use Rattle.wasi_tree.proofs.NodeLemmas.{node_data-new}
use Rattle.wasi_tree.proofs.node.NewNode.new.Goals as goal

pub returns : goal.returns
returns c = record {
  node =
      node_data-new _ (c.new_bits.ensures ∙ ap default_bits c.may_search-x.ensures)
      (zero_time-is _ refl refl) (zero_time-is _ refl refl) (zero_time-is _ refl refl);
}
