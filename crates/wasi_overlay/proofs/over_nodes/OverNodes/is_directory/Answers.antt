use Rattle.std.proofs.Common.{◌∙◌}
use Rattle.wasi_host.specs.Tree.{Node, is_directory}
use Rattle.wasi_overlay.proofs.StateLemmas.{left_at, is_directory-over}
use Rattle.wasi_overlay.proofs.over_nodes.OverNodes.is_directory.Goals as goal

pub returns : goal.returns
returns c = rw (← c.self.view_is)
    (c.is_directory.ensures ∙ left_at (λ (node : Node). is_directory node.content) is_directory-over c.self.inside.seats c.self.inside.below.nodes c.args.n)
