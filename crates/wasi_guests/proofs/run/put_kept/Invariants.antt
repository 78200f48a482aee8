use Rattle.std.proofs.Common.{◌≡◌, length, map, take}
use Rattle.std.specs.Prelude.{All}
use Rattle.wasi_report.specs.ReadBack.{HasRisingNames}
use Rattle.wasi_tree.specs.NodeData.{node_data}
use Rattle.wasi_guests.proofs.JoinLemmas.{SomePut}
use Rattle.wasi_guests.proofs.run.put_kept.Given as goal

abbrev pub invariant-loop-node : goal.invariant-loop-node
invariant-loop-node l = record {
  put : SomePut l.run (take l.node-index l.node-items) (map node_data l.fn.nodes.items) (map node_data l.nodes.items);
  count : length l.nodes.items ≡ l.start;
  rises : All HasRisingNames (map node_data l.fn.nodes.items) → All HasRisingNames (map node_data l.nodes.items);
}
