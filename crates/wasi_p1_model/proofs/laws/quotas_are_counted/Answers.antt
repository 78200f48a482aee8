use Rattle.wasi_p1_model.proofs.QuotaRuns.{run_counts}
use Rattle.wasi_p1_model.proofs.laws.quotas_are_counted.Goals as goal

pub returns : goal.returns
returns c = record { counted = run_counts }
