use Rattle.std.proofs.Common.{arith}
use Rattle.wasi_tree.proofs.NamedLemmas.{none_below}
use Rattle.wasi_overlay.proofs.over_store.OverStore.copy_names.Goals as goal

pub loop-n-init : goal.loop-n-init
loop-n-init c = record { here = λ d within. absurd (omega (arith, within)); below = none_below 0 c.new-rows.ensures }
