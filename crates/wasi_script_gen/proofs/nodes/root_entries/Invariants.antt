use Rattle.std.proofs.Common.{◌≡◌, map}
use Rattle.std.specs.List.{range_with_len}
use Rattle.wasi_tree.specs.NodeData.{pair_of}
use Rattle.wasi_script_gen.specs.GenNodes.{root_entry}
use Rattle.wasi_script_gen.proofs.nodes.root_entries.Given as goal

abbrev pub invariant-loop-i : goal.invariant-loop-i
invariant-loop-i l = map pair_of l.entries.items ≡ map root_entry (range_with_len 0 l.i)
