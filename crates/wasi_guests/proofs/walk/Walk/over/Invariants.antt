use Rattle.std.proofs.Common.{map}
use Rattle.wasi_guests.specs.Walk.{HasAllBegun, to_do}
use Rattle.wasi_guests.proofs.walk.Walk.over.Given as goal

abbrev pub invariant-loop-directory : goal.invariant-loop-directory
invariant-loop-directory l = HasAllBegun l.tree.tree (map (λ guest. guest.items) l.guests) l.walk

abbrev pub decreases-loop-directory : goal.decreases-loop-directory
decreases-loop-directory l = to_do l.walk
