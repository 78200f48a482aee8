use Rattle.wasi_resolve.proofs.LawProofs.{paths_stay_in_reach}
use Rattle.wasi_resolve.proofs.laws.paths_stay_in_reach.Goals as goal

pub returns : goal.returns
returns c = paths_stay_in_reach
