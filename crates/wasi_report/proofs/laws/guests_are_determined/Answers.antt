use Rattle.wasi_report.proofs.GuestsReadBack.{determined}
use Rattle.wasi_report.proofs.laws.guests_are_determined.Goals as goal

pub returns : goal.returns
returns c = record { determined = determined }
