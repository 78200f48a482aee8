use Rattle.wasi_host.proofs.BelowLemmas.{is_below-Decides}
use Rattle.wasi_host.proofs.laws.below_is_reached.Goals as goal

pub returns : goal.returns
returns c = record { below = is_below-Decides }
