use Rattle.std.proofs.Common.{◌≡◌, ℕ, ◌<◌, ◌≤◌, true, length, map, get_or}
use Rattle.wasi_audit.specs.NodeLists.{NodeList, nodes_of, is_among}
use Rattle.wasi_audit.proofs.lists.make_room.Given as goal

abbrev pub invariant-loop-preopen : goal.invariant-loop-preopen
invariant-loop-preopen l = record {
  same : map nodes_of l.lists.items ≡ map nodes_of l.fn.lists.items;
  end : l.preopen-end ≡ length l.lists.items;
  room : (k : ℕ) (d : NodeList) → k < l.preopen-counter → is_among l.preopens k ≡ true
      → l.more ≤ (get_or l.lists.items k d).spare;
}
