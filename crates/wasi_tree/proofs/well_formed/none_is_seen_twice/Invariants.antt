use Rattle.wasi_tree.proofs.DistinctLemmas.{IsSeen}
use Rattle.wasi_tree.proofs.well_formed.none_is_seen_twice.Given as goal

abbrev pub invariant-loop-entry : goal.invariant-loop-entry
invariant-loop-entry l = IsSeen l.seen l.entries l.entry-index
