use Rattle.std.proofs.Common.{arith}
use Rattle.wasi_p1_types.proofs.Cycling.{none_yet, one_more}
use Rattle.wasi_p1_types.proofs.guest_env.fill_cycled.Goals as goal

pub loop-i-init : goal.loop-i-init
loop-i-init c = none_yet c.requires.within

pub loop-i-preserved : goal.loop-i-preserved
loop-i-preserved c = rw c.place_after-place.ensures (one_more (omega arith) c.loop-i.invariant)
