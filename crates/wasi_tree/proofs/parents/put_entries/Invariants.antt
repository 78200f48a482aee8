use Rattle.std.proofs.Common.{take}
use Rattle.wasi_tree.specs.FitTests.{entry_numbers}
use Rattle.wasi_tree.specs.ParentOf.{ArePut}
use Rattle.wasi_tree.proofs.parents.put_entries.Given as goal

abbrev pub invariant-loop-entry : goal.invariant-loop-entry
invariant-loop-entry l =
    ArePut l.directory (entry_numbers (take l.entry-index l.entries)) l.initial.rows.items l.rows.items
