use Rattle.std.proofs.Common.{◌-◌, ◌^◌}
use Rattle.wasi_overlay.specs.OverSeats.{has_mark}
use Rattle.wasi_overlay.proofs.ListLemmas.{IsListed}
use Rattle.wasi_overlay.proofs.seats.list_marked.Given as goal

abbrev pub invariant-loop-n : goal.invariant-loop-n
invariant-loop-n l = IsListed (has_mark l.mark) l.seats l.from l.numbers.items

abbrev pub decreases-loop-n : goal.decreases-loop-n
decreases-loop-n l = 2 ^ 64 - l.from
