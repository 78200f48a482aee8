use Rattle.std.proofs.Common.{◌∙◌, sym, ap}
use Rattle.std.specs.FinMap.{remove}
use Rattle.wasi_tree_index.specs.DirEntryKeys.{AllNames}
use Rattle.wasi_tree_index.specs.OverNames.{overlaid}
use Rattle.wasi_tree_index.proofs.OverLemmas.{overlaid-left, overlaid-marked}
use Rattle.wasi_tree_index.proofs.over_index.OverNameIndex.take.Goals as goal

pub returns-then-not-has-clause-taken : goal.returns-then-not-has-clause-taken
returns-then-not-has-clause-taken c = ap (overlaid c.self.inside.base.now.names) c.remove.ensures.names
    ∙ overlaid-left c.self.inside.base.now.names c.self.inside.changed.names (c.args.directory, c.args.name.now)
    (sym c.has.ensures ∙ c.if-not-has.true)
    ∙ ap (λ (m : AllNames). remove m (c.args.directory, c.args.name.now)) c.self.view_is

pub returns-clause-taken : goal.returns-clause-taken
returns-clause-taken c = ap (overlaid c.self.inside.base.now.names) c.in_ok-put.ensures.put
    ∙ overlaid-marked c.self.inside.base.now.names c.self.inside.changed.names (c.args.directory, c.args.name.now)
    ∙ ap (λ (m : AllNames). remove m (c.args.directory, c.args.name.now)) c.self.view_is
