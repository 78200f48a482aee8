use Rattle.std.proofs.Common.{◌≡◌, ◌++◌, All, drop, map, take}
use Rattle.wasi_tree.specs.NodeData.{data_of_node}
use Rattle.wasi_report.specs.ReadBack.{FitsNode}
use Rattle.wasi_report.specs.Report.{node_value}
use Rattle.wasi_report.proofs.Encoding.{item_tokens}
use Rattle.wasi_report.proofs.outcome.encode_tree.Given as goal

abbrev pub invariant-loop-n : goal.invariant-loop-n
invariant-loop-n g l = record {
  before : l.out.before ≡ l.initial.out.before;
  tokens :
      l.out.tokens ++ item_tokens node_value (drop l.n (map data_of_node l.tree.tree.nodes))
      ≡ l.initial.out.tokens ++ item_tokens node_value (map data_of_node l.tree.tree.nodes);
  fits : All (λ node. FitsNode (data_of_node node)) (take l.n l.tree.tree.nodes);
}
