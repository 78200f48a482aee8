use Rattle.std.proofs.Common.{map, take}
use Rattle.wasi_tree.specs.NodeData.{node_data}
use Rattle.wasi_tree.specs.FitTests.{all_numbers, AreCounted}
use Rattle.wasi_tree.proofs.well_formed.count_names.Given as goal

abbrev pub invariant-loop-node : goal.invariant-loop-node
invariant-loop-node l = AreCounted (all_numbers (map node_data (take l.node-index l.nodes))) l.initial.counts.items l.counts.items
