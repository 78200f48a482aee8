use Rattle.std.proofs.Common.{◌≡◌, ◌≤◌, take}
use Rattle.std.specs.Prelude.{count_by}
use Rattle.wasi_p1_model.specs.Trace.{is_success}
use Rattle.wasi_script.proofs.summary.successes.Given as goal

abbrev pub invariant-loop-i : goal.invariant-loop-i
invariant-loop-i l = record {
  counted : l.count ≡ count_by is_success (take l.i l.answers.answers);
  few : l.count ≤ l.i;
}
