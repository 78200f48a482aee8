-- A node that is made.
use Rattle.std.proofs.Common.{◌≡◌, Bool, true}
use Rattle.wasi_host.specs.Time.{zero_time}
use Rattle.wasi_host.specs.Tree.{Node, Content, default_bits}
use Rattle.wasi_host.specs.Step.{new_node}
use Rattle.wasi_tree.specs.NodeData.{node_data, content_data, may_search, new_node_data}
use Rattle.wasi_tree.specs.declared.node.NewNode.{NewNode}

-- a node with the bits and times of a new one
pub node_data-new : (node : NewNode)
    → node.bits ≡ record { r = true; w = true; x = may_search (content_data node.content) }
    → node.atime ≡ zero_time → node.mtime ≡ zero_time → node.btime ≡ zero_time
    → node_data node ≡ new_node_data (content_data node.content)
node_data-new node bits atime mtime btime = λ i. record {
  content = content_data node.content;
  bits = bits i;
  atime = atime i;
  mtime = mtime i;
  btime = btime i;
}

-- a node that is made
pub is_new_node : {node : Node} {content : Content} {x : Bool} → node.content ≡ content → node.bits ≡ default_bits x
    → node.atime ≡ zero_time → node.mtime ≡ zero_time → node.btime ≡ zero_time → node ≡ new_node content x
is_new_node content bits atime mtime btime = λ i. record {
  content = content i;
  bits = bits i;
  atime = atime i;
  mtime = mtime i;
  btime = btime i;
}
