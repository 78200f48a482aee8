use Rattle.std.proofs.Common.{take}
use Rattle.wasi_tree.specs.FitTests.{entry_numbers, AreCounted}
use Rattle.wasi_tree.proofs.well_formed.count_entries.Given as goal

abbrev pub invariant-loop-entry : goal.invariant-loop-entry
invariant-loop-entry l = AreCounted (entry_numbers (take l.entry-index l.entries)) l.initial.counts.items l.counts.items
