use Rattle.std.proofs.Common.{◌∙◌, sym, ap, subst}
use Rattle.wasi_tree_index.specs.DirEntryKeys.{AllNames}
use Rattle.wasi_tree_index.specs.OverNames.{overlaid, IsChanged}
use Rattle.wasi_tree_index.proofs.OverLemmas.{overlaid-held, changed-here}
use Rattle.wasi_tree_index.proofs.over_index.hold.Goals as goal

pub returns-clause-same : goal.returns-clause-same
returns-clause-same c = ap (overlaid c.args.base.now.names) c.in_ok-put.ensures.put
    ∙ overlaid-held c.args.base.now.names c.args.changed.now.names (c.args.directory, c.args.name.now) c.args.node
    c.requires.unmarked c.requires.held

pub returns-clause-row : goal.returns-clause-row
returns-clause-row c =
    subst (λ (m : AllNames). IsChanged c.args.base.now.names m (c.args.directory, c.args.name.now))
    (sym c.in_ok-put.ensures.put)
    (changed-here c.args.base.now.names c.args.changed.now.names (c.args.directory, c.args.name.now) c.args.node)
