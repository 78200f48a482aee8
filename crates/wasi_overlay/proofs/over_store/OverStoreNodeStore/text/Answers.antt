use Rattle.std.proofs.Common.{◌∙◌, refl, sym, subst}
use Rattle.wasi_host.specs.Tree.{text_of}
use Rattle.wasi_tree.specs.Sound.{IsSoundText}
use Rattle.wasi_overlay.specs.OverStore.{overlay_parts}
use Rattle.wasi_overlay.proofs.TreeOver.{over_says, within_over}
use Rattle.wasi_overlay.proofs.over_store.OverStoreNodeStore.text.Goals as goal

pub text-requires : goal.text-requires
text-requires c = within_over (overlay_parts c.self.inside.nodes c.self.inside.names c.self.inside.limits) c.self.view_is c.requires

pub returns-clause-text : goal.returns-clause-text
returns-clause-text c = rw (← c.self.view_is) (c.text.ensures ∙ over_says (overlay_parts c.self.inside.nodes c.self.inside.names c.self.inside.limits) text_of (λ _ _ _. refl) c.args.n)

pub returns-clause-sound : goal.returns-clause-sound
returns-clause-sound c = rw (← c.self.view_is) (λ link.
    subst IsSoundText (sym (c.text.ensures ∙ over_says (overlay_parts c.self.inside.nodes c.self.inside.names c.self.inside.limits) text_of (λ _ _ _. refl) c.args.n))
    ((c.self.invariant.sound.nodes c.args.n).text link))
