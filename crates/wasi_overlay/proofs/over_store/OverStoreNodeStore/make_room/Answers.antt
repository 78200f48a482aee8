use Rattle.wasi_overlay.specs.OverStore.{overlay_parts}
use Rattle.wasi_overlay.proofs.TreeOver.{within_over}
use Rattle.wasi_overlay.proofs.over_store.OverStoreNodeStore.make_room.Goals as goal

pub hold-requires : goal.hold-requires
hold-requires c = within_over (overlay_parts c.self.inside.nodes c.self.inside.names c.self.inside.limits) c.self.view_is c.requires
