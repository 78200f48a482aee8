use Rattle.std.proofs.Common.{◌∙◌, refl}
use Rattle.wasi_host.specs.Tree.{bytes_of}
use Rattle.wasi_overlay.specs.OverStore.{overlay_parts}
use Rattle.wasi_overlay.proofs.TreeOver.{over_says, within_over}
use Rattle.wasi_overlay.proofs.over_store.OverStoreNodeStore.bytes.Goals as goal

pub bytes-requires : goal.bytes-requires
bytes-requires c = within_over (overlay_parts c.self.inside.nodes c.self.inside.names c.self.inside.limits) c.self.view_is c.requires

pub returns : goal.returns
returns c = rw (← c.self.view_is) (c.bytes.ensures ∙ over_says (overlay_parts c.self.inside.nodes c.self.inside.names c.self.inside.limits) bytes_of (λ _ _ _. refl) c.args.n)
