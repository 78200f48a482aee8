use Rattle.std.proofs.Common.{◌∙◌, refl}
use Rattle.wasi_host.specs.Tree.{is_gone}
use Rattle.wasi_overlay.specs.OverStore.{overlay_parts}
use Rattle.wasi_overlay.proofs.TreeOver.{over_says, within_over}
use Rattle.wasi_overlay.proofs.over_store.OverStoreNodeStore.is_gone.Goals as goal

pub is_gone-requires : goal.is_gone-requires
is_gone-requires c = within_over (overlay_parts c.self.inside.nodes c.self.inside.names c.self.inside.limits) c.self.view_is c.requires

pub returns : goal.returns
returns c = rw (← c.self.view_is) (c.is_gone.ensures ∙ over_says (overlay_parts c.self.inside.nodes c.self.inside.names c.self.inside.limits) is_gone (λ _ _ _. refl) c.args.n)
