use Rattle.std.proofs.Common.{◌∙◌, refl}
use Rattle.wasi_host.specs.Tree.{Node}
use Rattle.wasi_overlay.proofs.StateLemmas.{left_at}
use Rattle.wasi_overlay.proofs.over_nodes.OverNodes.bits.Goals as goal

pub returns : goal.returns
returns c = rw (← c.self.view_is)
    (c.bits.ensures ∙ left_at (λ (node : Node). node.bits) (λ _ _. refl) c.self.inside.seats c.self.inside.below.nodes c.args.n)
