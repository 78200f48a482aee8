use Rattle.std.proofs.Common.{◌≡◌, length}
use Rattle.std.specs.Cmp.Lexicographic.{slice_cmp}
use Rattle.std.specs.Ordering.{nat_cmp}
use Rattle.wasi_tree_index.specs.OverNames.{with_changes}
use Rattle.wasi_tree_index.proofs.over_entries.next_of.Given as goal

abbrev pub invariant-loop-name : goal.invariant-loop-name
invariant-loop-name l = with_changes (slice_cmp nat_cmp) l.fn.base l.fn.changed ≡ with_changes (slice_cmp nat_cmp) l.base l.changed

abbrev pub decreases-loop-name : goal.decreases-loop-name
decreases-loop-name l = length l.changed
