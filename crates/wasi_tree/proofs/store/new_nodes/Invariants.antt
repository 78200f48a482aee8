use Rattle.std.proofs.Common.{◌≡◌, length, map, take}
use Rattle.wasi_tree.specs.NodeData.{node_data, data_of_node}
use Rattle.wasi_tree.specs.StoredTree.{stored_node, named_from}
use Rattle.wasi_tree.proofs.store.new_nodes.Given as goal

abbrev pub invariant-loop-inode : goal.invariant-loop-inode
invariant-loop-inode l = record {
  told : map node_data l.nodes.items ≡ map data_of_node (named_from l.names.names 0 (map stored_node (take l.inode-index l.inodes)));
  count : length l.nodes.items ≡ l.inode-index;
}
