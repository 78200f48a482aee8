use Rattle.std.proofs.Common.{◌≡◌, take}
use Rattle.wasi_script.proofs.ListLemmas.{all_listed}
use Rattle.wasi_script.proofs.audited.all_listed.Given as goal

abbrev pub invariant-loop-preopen : goal.invariant-loop-preopen
invariant-loop-preopen l = l.nodes.items ≡ all_listed (take l.preopen l.audit.lists)
