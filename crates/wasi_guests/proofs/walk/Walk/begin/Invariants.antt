use Rattle.std.proofs.Common.{map}
use Rattle.wasi_guests.specs.Walk.{IsUnderWay}
use Rattle.wasi_guests.proofs.walk.Walk.begin.Given as goal

abbrev pub invariant-loop-guest : goal.invariant-loop-guest
invariant-loop-guest l = IsUnderWay l.tree.tree (map (λ guest. guest.items) l.guests) l.guest l.walk
