use Rattle.std.proofs.Common.{◌∙◌}
use Rattle.wasi_host.specs.Tree.{Node, text_of}
use Rattle.wasi_overlay.proofs.StateLemmas.{left_at, text_of-over}
use Rattle.wasi_overlay.proofs.over_nodes.OverNodes.text.Goals as goal

pub returns : goal.returns
returns c = rw (← c.self.view_is)
    (c.text.ensures ∙ left_at (λ (node : Node). text_of node.content) text_of-over c.self.inside.seats c.self.inside.below.nodes c.args.n)
