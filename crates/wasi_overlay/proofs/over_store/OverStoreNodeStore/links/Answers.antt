use Rattle.std.proofs.Common.{◌∙◌, refl}
use Rattle.wasi_host.specs.Tree.{links_of}
use Rattle.wasi_overlay.specs.OverStore.{overlay_parts}
use Rattle.wasi_overlay.proofs.TreeOver.{over_says, within_over}
use Rattle.wasi_overlay.proofs.over_store.OverStoreNodeStore.links.Goals as goal

pub links-requires : goal.links-requires
links-requires c = within_over (overlay_parts c.self.inside.nodes c.self.inside.names c.self.inside.limits) c.self.view_is c.requires

pub returns : goal.returns
returns c = rw (← c.self.view_is) (c.links.ensures ∙ over_says (overlay_parts c.self.inside.nodes c.self.inside.names c.self.inside.limits) links_of (λ _ _ _. refl) c.args.n)
