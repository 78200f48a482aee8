use Rattle.wasi_overlay.proofs.WorkedLemmas.{works_on_touched}
use Rattle.wasi_overlay.proofs.overlay.OverlayHost.open_at.Goals as goal

pub invariant_of-self : goal.invariant_of-self
invariant_of-self c = works_on_touched c.self.invariant c.open_at.ensures.modelled
