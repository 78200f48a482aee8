use Rattle.wasi_host_faults.proofs.Rising.{counts_few}
use Rattle.wasi_host_faults.proofs.laws.faults_are_few.Goals as goal

pub returns : goal.returns
returns c = record { few = counts_few }
