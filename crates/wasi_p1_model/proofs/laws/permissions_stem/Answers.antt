use Rattle.wasi_p1_model.proofs.Stemming.{run_stems}
use Rattle.wasi_p1_model.proofs.laws.permissions_stem.Goals as goal

pub returns : goal.returns
returns c = record { stem = λ k old new calls turns run n perms has. run_stems calls turns k old new run n perms has }
