use Rattle.std.proofs.Common.{◌+◌, ◌≤◌, map, vec_len, vec_capacity}
use Rattle.wasi_tree.specs.NodeData.{node_data}
use Rattle.wasi_tree.specs.FitTests.{unmarked_count}
use Rattle.wasi_tree.proofs.FoundLemmas.{IsSearch}
use Rattle.wasi_tree.proofs.well_formed.found_nodes.Given as goal

abbrev pub invariant-loop-number : goal.invariant-loop-number
invariant-loop-number l =
    (IsSearch (map node_data l.nodes) l.marks.items l.work.items)
    × (vec_len l.work + unmarked_count l.marks.items ≤ vec_capacity l.work)

abbrev pub decreases-loop-number : goal.decreases-loop-number
decreases-loop-number l = vec_len l.work + unmarked_count l.marks.items
