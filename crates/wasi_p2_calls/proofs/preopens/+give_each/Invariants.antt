use Rattle.std.proofs.Common.{length}
use Rattle.wasi_p2_calls.proofs.preopens.+give_each.Given as goal

abbrev pub decreases-give_each : goal.decreases-give_each
decreases-give_each g l = length l.preopens.now
