use Rattle.std.proofs.Common.{◌∙◌}
use Rattle.wasi_overlay.specs.OverStore.{overlay_parts}
use Rattle.wasi_overlay.proofs.TreeOver.{over_bits, within_over}
use Rattle.wasi_overlay.proofs.over_store.OverStoreNodeStore.bits.Goals as goal

pub bits-requires : goal.bits-requires
bits-requires c = within_over (overlay_parts c.self.inside.nodes c.self.inside.names c.self.inside.limits) c.self.view_is c.requires

pub returns : goal.returns
returns c =
    let within = within_over (overlay_parts c.self.inside.nodes c.self.inside.names c.self.inside.limits) c.self.view_is c.requires in
    rw (← c.self.view_is) (c.bits.ensures ∙ over_bits (overlay_parts c.self.inside.nodes c.self.inside.names c.self.inside.limits) c.args.n within)
