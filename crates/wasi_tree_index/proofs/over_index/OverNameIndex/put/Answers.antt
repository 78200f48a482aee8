use Rattle.std.proofs.Common.{◌∙◌, ap, arith}
use Rattle.std.specs.FinMap.{insert}
use Rattle.wasi_tree_index.specs.DirEntryKeys.{AllNames}
use Rattle.wasi_tree_index.specs.OverNames.{overlaid}
use Rattle.wasi_tree_index.proofs.OverLemmas.{overlaid-put}
use Rattle.wasi_tree_index.proofs.over_index.OverNameIndex.put.Goals as goal

pub returns-clause-put : goal.returns-clause-put
returns-clause-put c = ap (overlaid c.self.inside.base.now.names) c.in_ok-put.ensures.put
    ∙ overlaid-put c.self.inside.base.now.names c.self.inside.changed.names (c.args.directory, c.args.name.now)
    c.args.node (omega (arith, c.ranges.node.fits, c.if-node-eq-TAKEN.false))
    ∙ ap (λ (m : AllNames). insert m (c.args.directory, c.args.name.now) c.args.node) c.self.view_is
