use Rattle.std.proofs.Common.{◌∙◌, refl}
use Rattle.wasi_host.specs.Answer.{kind_of}
use Rattle.wasi_overlay.specs.OverStore.{overlay_parts}
use Rattle.wasi_overlay.proofs.TreeOver.{over_says}
use Rattle.wasi_overlay.proofs.over_store.OverStore.kind.Goals as goal

pub returns : goal.returns
returns c = rw (← c.self.view_is) (c.kind.ensures ∙ over_says (overlay_parts c.self.inside.nodes c.self.inside.names c.self.inside.limits) kind_of (λ _ _ _. refl) c.args.n)
