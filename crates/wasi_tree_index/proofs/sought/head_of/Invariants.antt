use Rattle.std.proofs.Common.{◌-◌, ◌≡◌, ◌<◌, ◌≤◌, drop}
use Rattle.wasi_tree_index.specs.Heads.{head_of, number_behind}
use Rattle.wasi_tree_index.proofs.HeadLemmas.{worth}
use Rattle.wasi_tree_index.proofs.sought.head_of.Given as goal

abbrev pub invariant-loop-at : goal.invariant-loop-at
invariant-loop-at l = record {
  within : l.at ≤ 8;
  small : l.head < worth l.at;
  same : number_behind (8 - l.at) l.head (drop l.at l.bytes) ≡ head_of l.fn.text;
}

abbrev pub decreases-loop-at : goal.decreases-loop-at
decreases-loop-at l = 8 - l.at
