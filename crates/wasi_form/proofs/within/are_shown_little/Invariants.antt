use Rattle.std.proofs.Common.{◌≡◌, ◌+◌, take}
use Rattle.std.specs.Prelude.{sum_by}
use Rattle.wasi_form.specs.Within.{most_memory, shown_bytes}
use Rattle.wasi_form.proofs.within.are_shown_little.Given as goal

abbrev pub invariant-loop-guest : goal.invariant-loop-guest
invariant-loop-guest l =
    sum_by (λ guest. shown_bytes guest.show.items) (take l.guest-index l.guests) + l.left ≡ most_memory
