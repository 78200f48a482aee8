use Rattle.std.proofs.Common.{◌-◌, ◌^◌}
use Rattle.wasi_overlay.proofs.ForgotLemmas.{AreForgotten}
use Rattle.wasi_overlay.proofs.seats.Seats.forget.Given as goal

abbrev pub invariant-loop-n : goal.invariant-loop-n
invariant-loop-n l = AreForgotten l.fn.self l.self l.from

abbrev pub decreases-loop-n : goal.decreases-loop-n
decreases-loop-n l = 2 ^ 64 - l.from
