use Rattle.std.proofs.Common.{ℕ, ◌<◌, map}
use Rattle.wasi_tree.specs.NodeData.{node_data}
use Rattle.wasi_tree.specs.WellFormed.{IsWellFormedNode}
use Rattle.wasi_tree.proofs.well_formed.check_nodes.Given as goal

abbrev pub invariant-loop-i : goal.invariant-loop-i
invariant-loop-i l = (k : ℕ) → k < l.i → IsWellFormedNode l.limits (map node_data l.nodes) k
