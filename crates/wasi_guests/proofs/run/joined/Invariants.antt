use Rattle.std.proofs.Common.{◌≡◌, List, length, map, take}
use Rattle.std.specs.Prelude.{All}
use Rattle.wasi_report.specs.ReadBack.{HasRisingNames}
use Rattle.wasi_tree.specs.NodeData.{NodeData, node_data}
use Rattle.wasi_guests.specs.Between.{made_node}
use Rattle.wasi_guests.proofs.JoinLemmas.{FirstPut, MadeBehind}
use Rattle.wasi_guests.proofs.run.joined.Given as goal

abbrev pub invariant-loop-run : goal.invariant-loop-run
invariant-loop-run l = record {
  put : FirstPut l.runs l.run-index (map node_data l.fn.nodes.items) (map node_data l.nodes.items);
  start : length l.fn.nodes.items ≡ l.start;
  rises : All HasRisingNames (map node_data l.fn.nodes.items) → All HasRisingNames (map node_data l.nodes.items);
}

abbrev pub invariant-loop-one : goal.invariant-loop-one
invariant-loop-one l = record {
  before : List NodeData;
  put : FirstPut l.runs (length l.runs) (map node_data l.fn.nodes.items) before;
  behind : MadeBehind l.runs (map made_node (take l.one-index l.made)) l.start before (map node_data l.nodes.items);
  start : length l.fn.nodes.items ≡ l.start;
  rises : All HasRisingNames (map node_data l.fn.nodes.items) → All HasRisingNames (map node_data l.nodes.items);
}
