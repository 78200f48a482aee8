use Rattle.std.proofs.Common.{◌∙◌}
use Rattle.wasi_host.specs.Tree.{Node, is_file}
use Rattle.wasi_overlay.proofs.StateLemmas.{left_at, is_file-over}
use Rattle.wasi_overlay.proofs.over_nodes.OverNodes.is_file.Goals as goal

pub returns : goal.returns
returns c = rw (← c.self.view_is)
    (c.is_file.ensures ∙ left_at (λ (node : Node). is_file node.content) is_file-over c.self.inside.seats c.self.inside.below.nodes c.args.n)
