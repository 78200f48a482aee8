use Rattle.wasi_p1_model.proofs.Apart.{run_appends, run_grows, run_keeps_apart}
use Rattle.wasi_p1_model.proofs.laws.append_only_runs_keep.Goals as goal

pub returns : goal.returns
returns c = record { appends = run_appends; grows = run_grows; apart = run_keeps_apart }
