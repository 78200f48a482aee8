use Rattle.wasi_p1.proofs.Subscribed.{Named}
use Rattle.wasi_p1.proofs.naming.waited_for.Given as goal

abbrev pub invariant-loop-i : goal.invariant-loop-i
invariant-loop-i l = Named l.memory l.at l.count l.i l.numbers.items
