use Rattle.std.proofs.Common.{◌≡◌, ◌≤◌, ◌-◌, ◌+◌, ◌++◌, length, map}
use Rattle.wasi_host.specs.Tree.{next_of}
use Rattle.wasi_guests.specs.Between.{TakesItsTurn, made_node, tree_of}
use Rattle.wasi_guests.specs.Joint.{numbers_from}
use Rattle.wasi_guests.specs.declared.guest_run.GuestRun.{GuestRun}
use Rattle.wasi_guests.proofs.turns.take_turn.Given as goal

-- the turn was taken, and the nodes that it made are noted up to this one
abbrev pub invariant-loop-node : goal.invariant-loop-node
invariant-loop-node l = record {
  turned : GuestRun;
  turn : TakesItsTurn l.fn.run turned;
  same : l.run ≡ record turned { joint = l.run.joint };
  first : l.first ≡ next_of (tree_of l.fn.run);
  end : l.node-end ≡ next_of (tree_of turned);
  low : l.first ≤ l.node;
  high : l.node - l.first ≤ l.node-end - l.first;
  made : map made_node l.made.items
      ≡ map made_node l.fn.made.items ++ map (λ n. (l.guest, n)) (numbers_from l.first (l.node - l.first));
  joint : l.run.joint.items
      ≡ l.fn.run.joint.items ++ numbers_from (l.start + length l.fn.made.items) (l.node - l.first);
}
