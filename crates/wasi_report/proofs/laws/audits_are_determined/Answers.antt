use Rattle.wasi_report.proofs.AuditReadBack.{determined}
use Rattle.wasi_report.proofs.laws.audits_are_determined.Goals as goal

pub returns : goal.returns
returns c = record { determined = determined }
