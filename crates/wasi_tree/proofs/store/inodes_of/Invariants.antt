use Rattle.std.proofs.Common.{map}
use Rattle.std.specs.Vec.Iter.{into_iter_items}
use Rattle.wasi_tree.specs.NodeData.{node_data}
use Rattle.wasi_tree.proofs.NewTreeLemmas.{AreInodes}
use Rattle.wasi_tree.proofs.store.inodes_of.Given as goal

abbrev pub invariant-loop-node : goal.invariant-loop-node
invariant-loop-node l =
    AreInodes (map node_data l.fn.nodes.items) l.inodes.items l.names.names (map node_data (into_iter_items l.node-iterator))
