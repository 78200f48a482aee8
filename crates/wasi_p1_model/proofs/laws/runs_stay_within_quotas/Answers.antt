use Rattle.wasi_p1_model.proofs.QuotaRuns.{run_opened, run_within}
use Rattle.wasi_p1_model.proofs.laws.runs_stay_within_quotas.Goals as goal

pub returns : goal.returns
returns c = record { opened = run_opened; within = run_within }
