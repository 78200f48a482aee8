use Rattle.std.proofs.Common.{◌≡◌, ◌++◌, All, drop, map, take}
use Rattle.wasi_tree.specs.NodeData.{node_data}
use Rattle.wasi_report.specs.ReadBack.{FitsNode}
use Rattle.wasi_report.specs.Report.{node_value}
use Rattle.wasi_report.proofs.Encoding.{item_tokens}
use Rattle.wasi_report.proofs.encode_nodes.encode_new_nodes.Given as goal

abbrev pub invariant-loop-node : goal.invariant-loop-node
invariant-loop-node g l = record {
  before : l.out.before ≡ l.initial.out.before;
  tokens :
      l.out.tokens ++ item_tokens node_value (drop l.node-index (map node_data l.nodes))
      ≡ l.initial.out.tokens ++ item_tokens node_value (map node_data l.nodes);
  fits : All (λ node. FitsNode (node_data node)) (take l.node-index l.nodes);
}
