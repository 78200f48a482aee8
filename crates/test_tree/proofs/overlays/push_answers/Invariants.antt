-- The handle stays live from call to call.
use Rattle.std.proofs.Common.{◌≡◌, true}
use Rattle.std.specs.FinSet.{contains}
use Rattle.wasi_tree.specs.MemState.{live_of}
use Rattle.test_tree.proofs.overlays.push_answers.Given as goal

abbrev pub invariant-loop-one : goal.invariant-loop-one
invariant-loop-one l = contains (live_of l.overlay.handles) l.root ≡ true
