use Rattle.std.proofs.Common.{length, ◌≡◌}
use Rattle.std.specs.List.{slice_get}
use Rattle.wasi_tree_index.specs.EntryCursors.{entries_from}
use Rattle.wasi_tree_index.proofs.entries.row_at.Given as goal

abbrev pub invariant-loop-rows : goal.invariant-loop-rows
invariant-loop-rows l =
    slice_get (entries_from l.rows l.behind) l.left ≡ slice_get (entries_from l.here l.rest) l.place

abbrev pub decreases-loop-rows : goal.decreases-loop-rows
decreases-loop-rows l = length l.behind
