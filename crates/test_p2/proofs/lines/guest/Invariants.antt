-- The handles of the directories so far are owned.
use Rattle.std.specs.FinMap.{empty}
use Rattle.wasi_tree.specs.MemState.{live_of}
use Rattle.wasi_p2_calls.specs.Resources.{AreOwned}
use Rattle.test_p2.proofs.lines.guest.Given as goal

abbrev pub invariant-loop-node : goal.invariant-loop-node
invariant-loop-node l = record {
  owned : AreOwned (live_of l.host.handles) l.preopens.items empty;
}
