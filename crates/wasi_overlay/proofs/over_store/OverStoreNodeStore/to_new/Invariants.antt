use Rattle.std.proofs.Common.{◌≡◌, map, take}
use Rattle.wasi_tree.specs.NodeData.{node_data, data_of_node}
use Rattle.wasi_overlay.proofs.over_store.OverStoreNodeStore.to_new.Given as goal

abbrev pub invariant-loop-n : goal.invariant-loop-n
invariant-loop-n l = map node_data l.nodes.items ≡ map data_of_node (take l.n l.self.tree.nodes)
