use Rattle.wasi_overlay.specs.OverStore.{HoldsNames}
use Rattle.wasi_overlay.proofs.over_store.OverStore.copy_names.Given as goal

abbrev pub invariant-loop-n : goal.invariant-loop-n
invariant-loop-n l = HoldsNames l.self.tree l.n l.rows.names
