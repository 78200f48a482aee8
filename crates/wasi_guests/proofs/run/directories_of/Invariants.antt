use Rattle.std.proofs.Common.{◌≡◌, map, take}
use Rattle.wasi_guests.specs.AsIfAlone.{preopen_directories}
use Rattle.wasi_guests.proofs.run.directories_of.Given as goal

abbrev pub invariant-loop-guest : goal.invariant-loop-guest
invariant-loop-guest l = map (λ one. one.items) l.all.items ≡ map preopen_directories (take l.guest-index l.guests)
