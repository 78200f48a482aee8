use Rattle.wasi_p2_calls.proofs.Keeping.{owned_directory}
use Rattle.test_p2.proofs.Staying.{owned_none}
use Rattle.test_p2.proofs.lines.guest.Goals as goal

pub loop-node-init : goal.loop-node-init
loop-node-init c = record { owned = rw c.new-preopens.ensures.items owned_none }

pub loop-node-preserved : goal.loop-node-preserved
loop-node-preserved c = record {
  owned = rw (c.in_ok-push.ensures.items, c.in_ok-preopen.ensures.1)
      (owned_directory _ c.loop-node.invariant.owned c.in_ok-preopen.ensures.0);
}
