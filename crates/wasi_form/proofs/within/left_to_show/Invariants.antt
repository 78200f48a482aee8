use Rattle.std.proofs.Common.{◌≡◌, ◌+◌, take}
use Rattle.wasi_form.specs.Within.{shown_bytes}
use Rattle.wasi_form.proofs.within.left_to_show.Given as goal

abbrev pub invariant-loop-shown : goal.invariant-loop-shown
invariant-loop-shown l = shown_bytes (take l.shown-index l.show) + l.left ≡ l.most
