use Rattle.wasi_p1_model.proofs.ErrorNumbers.{run_errnos}
use Rattle.wasi_p1_model.proofs.laws.other_errors_never_come.Goals as goal

pub returns : goal.returns
returns c = record { errnos = λ k old new calls turns run. run_errnos calls turns k old new run }
