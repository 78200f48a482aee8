use Rattle.std.proofs.Common.{◌≡◌, ◌++◌, map}
use Rattle.std.specs.List.{range_with_len}
use Rattle.wasi_tree.specs.NodeData.{node_data, new_node_data}
use Rattle.wasi_script_gen.specs.GenNodes.{content_of}
use Rattle.wasi_script_gen.proofs.nodes.push_all.Given as goal

abbrev pub invariant-loop-i : goal.invariant-loop-i
invariant-loop-i l = map node_data l.nodes.items
    ≡ map node_data l.fn.nodes.items ++ map (λ i. new_node_data (content_of l.n l.kind i)) (range_with_len 0 l.i)
