use Rattle.std.proofs.Common.{◌∙◌}
use Rattle.wasi_host.specs.Tree.{Node, is_link}
use Rattle.wasi_overlay.proofs.StateLemmas.{left_at, is_link-over}
use Rattle.wasi_overlay.proofs.over_nodes.OverNodes.is_link.Goals as goal

pub returns : goal.returns
returns c = rw (← c.self.view_is)
    (c.is_link.ensures ∙ left_at (λ (node : Node). is_link node.content) is_link-over c.self.inside.seats c.self.inside.below.nodes c.args.n)
