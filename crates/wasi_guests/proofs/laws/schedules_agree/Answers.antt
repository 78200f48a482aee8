use Rattle.wasi_guests.proofs.AgreeLemmas.{schedules_agree}
use Rattle.wasi_guests.proofs.laws.schedules_agree.Goals as goal

pub returns : goal.returns
returns c = record { agree = schedules_agree }
