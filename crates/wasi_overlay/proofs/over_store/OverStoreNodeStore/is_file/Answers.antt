use Rattle.std.proofs.Common.{◌∙◌, refl}
use Rattle.wasi_host.specs.Tree.{is_file}
use Rattle.wasi_overlay.specs.OverStore.{overlay_parts}
use Rattle.wasi_overlay.proofs.TreeOver.{over_says, within_over}
use Rattle.wasi_overlay.proofs.over_store.OverStoreNodeStore.is_file.Goals as goal

pub is_file-requires : goal.is_file-requires
is_file-requires c = within_over (overlay_parts c.self.inside.nodes c.self.inside.names c.self.inside.limits) c.self.view_is c.requires

pub returns : goal.returns
returns c = rw (← c.self.view_is) (c.is_file.ensures ∙ over_says (overlay_parts c.self.inside.nodes c.self.inside.names c.self.inside.limits) is_file (λ _ _ _. refl) c.args.n)
