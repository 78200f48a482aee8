use Rattle.std.proofs.Common.{ap, ◌∙◌, take_all}
use Rattle.std.proofs.lemmas.List.Elements.{All-get_or, All-map, All-more}
use Rattle.std.proofs.lemmas.Result.{on_ok_weaker}
use Rattle.wasi_tree.specs.NodeData.{node_data}
use Rattle.wasi_report.specs.ReadBack.{FitsNode, HasRisingNames}
use Rattle.wasi_report.specs.Report.{node_value}
use Rattle.wasi_report.proofs.Encoding.{all_seen, seen_next}
use Rattle.wasi_report.proofs.encode_nodes.encode_new_nodes.Goals as goal

pub encode_new_node-requires : goal.encode_new_node-requires
encode_new_node-requires g c =
    rw c.node-item.is
    (All-get_or (λ node. HasRisingNames (node_data node)) _ _ c.node-item.result c.loop-node-test.true
    (all_seen HasRisingNames node_data _ c.requires))

pub loop-node-preserved : goal.loop-node-preserved
loop-node-preserved g c = record {
  before = c.in_ok-encode_new_node.ensures.before ∙ c.loop-node.invariant.before;
  tokens =
      seen_next node_value node_data _ _ c.node-item.result _ _ _ _ c.loop-node.invariant.tokens c.loop-node-test.true
      (ap node_data c.node-item.is) c.in_ok-encode_new_node.ensures.tokens;
  fits =
      All-more (λ node. FitsNode (node_data node)) _ _ c.node-item.result c.loop-node-test.true c.loop-node.invariant.fits
      (rw (← c.node-item.is) c.in_ok-encode_new_node.ensures.fits);
}

pub returns-clause-fits : goal.returns-clause-fits
returns-clause-fits g c =
    let encoded_all = rw (take_all _ _ c.loop-node-test.false) at c.loop-node.invariant.fits in
    on_ok_weaker c.end_array.result (λ _. All-map FitsNode node_data _ encoded_all) c.end_array.ensures.ok
