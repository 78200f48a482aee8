use Rattle.std.proofs.Common.{take}
use Rattle.wasi_guests.specs.Walk.{AreFound}
use Rattle.wasi_guests.proofs.walk.Walk.find_all.Given as goal

abbrev pub invariant-loop-node : goal.invariant-loop-node
invariant-loop-node l = AreFound (take l.node-index l.nodes) l.holders l.initial.self l.self
