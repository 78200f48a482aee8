use Rattle.std.proofs.Common.{◌≡◌, ◌≤◌, ◌*◌, ◌^◌}
use Rattle.wasi_script.proofs.Summaries.{read_so_far}
use Rattle.wasi_script.proofs.summary.bytes_answered.Given as goal

abbrev pub invariant-loop-i : goal.invariant-loop-i
invariant-loop-i l = record {
  summed : l.sum ≡ read_so_far l.calls l.answers.answers l.i;
  little : l.sum ≤ l.i * 2 ^ 64;
}
