use Rattle.std.proofs.Common.{◌≡◌, ℕ, ◌<◌, ◌≤◌, length, get_or}
use Rattle.wasi_audit.specs.Audits.{noted_list}
use Rattle.wasi_audit.specs.NodeLists.{NodeList, is_among}
use Rattle.wasi_audit.proofs.lists.add_touched.Given as goal

abbrev pub invariant-loop-preopen : goal.invariant-loop-preopen
invariant-loop-preopen l = record {
  len : length l.lists.items ≡ length l.fn.lists.items;
  end : l.preopen-end ≡ length l.lists.items;
  done : (k : ℕ) (d : NodeList) → k < l.preopen-counter
      → (get_or l.lists.items k d).nodes
      ≡ noted_list (is_among l.preopens k) l.touched (get_or l.fn.lists.items k d).nodes;
  rest : (k : ℕ) (d : NodeList) → l.preopen-counter ≤ k → get_or l.lists.items k d ≡ get_or l.fn.lists.items k d;
}
