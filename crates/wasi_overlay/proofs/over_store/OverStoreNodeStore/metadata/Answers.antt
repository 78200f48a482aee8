use Rattle.std.proofs.Common.{◌∙◌}
use Rattle.wasi_overlay.specs.OverStore.{overlay_parts}
use Rattle.wasi_overlay.proofs.TreeOver.{over_metadata, within_over}
use Rattle.wasi_overlay.proofs.over_store.OverStoreNodeStore.metadata.Goals as goal

pub metadata-requires : goal.metadata-requires
metadata-requires c = within_over (overlay_parts c.self.inside.nodes c.self.inside.names c.self.inside.limits) c.self.view_is c.requires

pub returns-clause-metadata : goal.returns-clause-metadata
returns-clause-metadata c =
    let within = within_over (overlay_parts c.self.inside.nodes c.self.inside.names c.self.inside.limits) c.self.view_is c.requires in
    rw (← c.self.view_is) (c.metadata.ensures.metadata ∙ over_metadata (overlay_parts c.self.inside.nodes c.self.inside.names c.self.inside.limits) c.args.n within)
