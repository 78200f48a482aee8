use Rattle.wasi_report.proofs.ReadBack.{determined}
use Rattle.wasi_report.proofs.laws.reports_are_determined.Goals as goal

pub returns : goal.returns
returns c = record { determined = determined }
