use Rattle.std.proofs.Common.{◌≡◌, take, vec_capacity}
use Rattle.wasi_tree.specs.FitTests.{entry_numbers, AreMarked}
use Rattle.wasi_tree.proofs.well_formed.find_entries.Given as goal

abbrev pub invariant-loop-entry : goal.invariant-loop-entry
invariant-loop-entry l =
    (AreMarked (entry_numbers (take l.entry-index l.entries)) l.initial.marks.items l.initial.work.items l.marks.items l.work.items)
    × (vec_capacity l.work ≡ vec_capacity l.initial.work)
