use Rattle.std.proofs.Common.{◌≡◌, ◌++◌, drop}
use Rattle.wasi_tree.specs.Marks.{marks_in}
use Rattle.wasi_tree.proofs.MarkLemmas.{places_from}
use Rattle.wasi_tree.proofs.marks.Marks.list.Given as goal

abbrev pub invariant-loop-node : goal.invariant-loop-node
invariant-loop-node l =
    l.nodes.items ++ places_from l.node (drop l.node (marks_in l.round l.last-items))
    ≡ places_from 0 (marks_in l.round l.last-items)
