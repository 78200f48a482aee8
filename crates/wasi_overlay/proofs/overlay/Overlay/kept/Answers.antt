use Rattle.std.proofs.Common.{ap}
use Rattle.wasi_host.specs.Tree.{Tree}
use Rattle.wasi_overlay.proofs.WorkedLemmas.{kept_touched}
use Rattle.wasi_overlay.proofs.overlay.Overlay.kept.Goals as goal

pub returns-clause-touched : goal.returns-clause-touched
returns-clause-touched c =
    rw (← c.self.view_is) (kept_touched c.list_worked.result c.self.invariant (ap (λ (t : Tree). t.worked) c.store.ensures.tree)
    c.list_worked.ensures.nodes)
