use Rattle.std.proofs.Common.{◌≡◌, ◌≤◌, [], map, vec_len, vec_capacity, replicate}
use Rattle.wasi_audit.specs.NodeLists.{nodes_of}
use Rattle.wasi_audit.proofs.audit.Audit.new.Given as goal

abbrev pub invariant-loop : goal.invariant-loop
invariant-loop l = record {
  none : map nodes_of l.lists.items ≡ replicate l.counter [];
  len : vec_len l.lists ≡ l.counter;
  room : l.preopens ≤ vec_capacity l.lists;
}
