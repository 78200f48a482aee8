use Rattle.wasi_p1_model.proofs.Owning.{live_stays}
use Rattle.wasi_p1_model.proofs.laws.live_handles_stay.Goals as goal

pub returns : goal.returns
returns c = record { stay = live_stays }
