use Rattle.std.proofs.Common.{◌≡◌}
use Rattle.std.specs.FinMap.{from_entries}
use Rattle.std.specs.Ordering.{nat_cmp}
use Rattle.wasi_audit.specs.Audits.{first_stems}
use Rattle.wasi_audit.proofs.stems.Stems.new.Given as goal

abbrev pub invariant-loop-preopen : goal.invariant-loop-preopen
invariant-loop-preopen l = from_entries {R = nat_cmp} l.by_number.entries ≡ first_stems l.preopen
