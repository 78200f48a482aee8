use Rattle.wasi_resolve.proofs.LawProofs.{paths_agree}
use Rattle.wasi_resolve.proofs.laws.paths_agree.Goals as goal

pub returns : goal.returns
returns c = paths_agree
