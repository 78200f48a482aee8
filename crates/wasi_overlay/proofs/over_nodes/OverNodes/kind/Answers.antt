use Rattle.std.proofs.Common.{◌∙◌}
use Rattle.wasi_host.specs.Answer.{kind_of}
use Rattle.wasi_host.specs.Tree.{Node}
use Rattle.wasi_overlay.proofs.SeatLemmas.{kind-over}
use Rattle.wasi_overlay.proofs.StateLemmas.{left_at}
use Rattle.wasi_overlay.proofs.over_nodes.OverNodes.kind.Goals as goal

pub returns : goal.returns
returns c = rw (← c.self.view_is)
    (c.kind.ensures ∙ left_at (λ (node : Node). kind_of node.content) (λ seat node. kind-over seat node.content)
    c.self.inside.seats c.self.inside.below.nodes c.args.n)
