use Rattle.std.proofs.Common.{◌∙◌, refl}
use Rattle.wasi_host.specs.Tree.{is_directory}
use Rattle.wasi_overlay.specs.OverStore.{overlay_parts}
use Rattle.wasi_overlay.proofs.TreeOver.{over_says}
use Rattle.wasi_overlay.proofs.over_store.OverStoreNodeStore.is_directory.Goals as goal

pub returns : goal.returns
returns c = rw (← c.self.view_is) (c.is_directory.ensures ∙ over_says (overlay_parts c.self.inside.nodes c.self.inside.names c.self.inside.limits) is_directory (λ _ _ _. refl) c.args.n)
