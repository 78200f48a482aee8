use Rattle.std.proofs.Common.{◌∙◌, ap, slice_index_or, slice_set}
use Rattle.wasi_host.specs.Step.{with_size}
use Rattle.wasi_host.specs.Tree.{stray, bytes_of}
use Rattle.wasi_overlay.proofs.StepLemmas.{bytes_made, with_size_none}
use Rattle.wasi_overlay.proofs.over_nodes.OverNodes.cut.Goals as goal

pub returns-clause-nodes : goal.returns-clause-nodes
returns-clause-nodes c =
    let node = slice_index_or c.args.self.now.nodes c.args.n stray in
    c.set_bytes.ensures.nodes ∙ ap (slice_set c.args.self.now.nodes c.args.n)
    (bytes_made node (with_size 0) c.new.result.items (c.new.ensures.items ∙ with_size_none (bytes_of node.content)))
