use Rattle.std.proofs.Common.{◌≡◌, ◌++◌, map, length}
use Rattle.wasi_tree.specs.NodeData.{pair_of}
use Rattle.wasi_tree.proofs.inode.new_entries.Given as goal

abbrev pub invariant-loop-name : goal.invariant-loop-name
invariant-loop-name l = map pair_of l.entries.items ++ l.names ≡ l.initial.names

abbrev pub decreases-loop-name : goal.decreases-loop-name
decreases-loop-name l = length l.names
