use Rattle.wasi_p1_types.proofs.Cycling.{Cycled}
use Rattle.wasi_p1_types.proofs.guest_env.fill_cycled.Given as goal

-- so far
abbrev pub invariant-loop-i : goal.invariant-loop-i
invariant-loop-i l = Cycled l.bytes l.at l.i l.part l.place
