use Rattle.std.proofs.Common.{◌≡◌, ◌≤◌, ◌+◌, length, drop}
use Rattle.wasi_p1_types.specs.Polling.{nodes_read}
use Rattle.wasi_p1_env_calls.proofs.subscriptions.sizes_asked.Given as goal

-- those so far, with those that are left
abbrev pub invariant-loop-item : goal.invariant-loop-item
invariant-loop-item l = record {
  few : l.count ≤ l.item-index;
  all : l.count + length (nodes_read (drop l.item-index l.waited)) ≡ length (nodes_read l.waited);
}
