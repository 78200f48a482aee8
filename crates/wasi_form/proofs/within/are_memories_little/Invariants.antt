use Rattle.std.proofs.Common.{◌≡◌, ◌+◌, take}
use Rattle.std.specs.Prelude.{sum_by}
use Rattle.wasi_form.specs.Within.{most_memory}
use Rattle.wasi_form.proofs.within.are_memories_little.Given as goal

abbrev pub invariant-loop-guest : goal.invariant-loop-guest
invariant-loop-guest l = sum_by (λ guest. guest.size) (take l.guest-index l.guests) + l.left ≡ most_memory
