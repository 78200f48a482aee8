use Rattle.std.proofs.Common.{◌≡◌, map, take}
use Rattle.wasi_setup.specs.ReportAfter.{bytes_shown}
use Rattle.wasi_setup.proofs.setup.shown.Given as goal

abbrev pub invariant-loop-range : goal.invariant-loop-range
invariant-loop-range l = map (λ bytes. bytes.items) l.list.items ≡ map (bytes_shown l.memory) (take l.range-index l.ranges)
