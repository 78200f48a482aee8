use Rattle.wasi_overlay.proofs.WorkedLemmas.{works_on_touched}
use Rattle.wasi_overlay.proofs.overlay.OverlayHost.list.Goals as goal

pub invariant_of-self : goal.invariant_of-self
invariant_of-self c = works_on_touched c.self.invariant c.list.ensures.modelled
