use Rattle.std.proofs.Common.{◌∙◌, sym}
use Rattle.wasi_overlay.specs.OverStore.{overlay_parts}
use Rattle.wasi_overlay.proofs.TreeOver.{over_next}
use Rattle.wasi_overlay.proofs.over_store.OverStoreNodeStore.count.Goals as goal

pub returns : goal.returns
returns c = rw (← c.self.view_is) (c.count.ensures ∙ sym (over_next (overlay_parts c.self.inside.nodes c.self.inside.names c.self.inside.limits)))
