use Rattle.std.proofs.Common.{◌≡◌, ℕ, take}
use Rattle.wasi_audit.specs.Audits.{is_named_from}
use Rattle.wasi_audit.specs.NodeLists.{is_among}
use Rattle.wasi_audit.proofs.stems.Stems.of_all.Given as goal

abbrev pub invariant-loop-number : goal.invariant-loop-number
invariant-loop-number l = (i : ℕ) → is_among l.preopens.items i ≡ is_named_from l.self (take l.number-index l.named) i
