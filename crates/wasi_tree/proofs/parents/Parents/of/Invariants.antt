use Rattle.std.proofs.Common.{map}
use Rattle.wasi_tree.specs.NodeData.{node_data}
use Rattle.wasi_tree.proofs.PutParents.{TellFirst}
use Rattle.wasi_tree.proofs.parents.Parents.of.Given as goal

abbrev pub invariant-loop-directory : goal.invariant-loop-directory
invariant-loop-directory l = TellFirst (map node_data l.nodes) l.directory l.rows.items
