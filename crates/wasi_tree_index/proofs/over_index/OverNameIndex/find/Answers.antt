use Rattle.std.proofs.Common.{◌∙◌, sym, ap}
use Rattle.std.specs.FinMap.{get}
use Rattle.wasi_tree_index.specs.DirEntryKeys.{AllNames}
use Rattle.wasi_tree_index.proofs.OverLemmas.{overlaid-bare, found-marked, found-changed, found-below}
use Rattle.wasi_tree_index.proofs.over_index.OverNameIndex.find.Goals as goal

pub returns-then-is_bare : goal.returns-then-is_bare
returns-then-is_bare c = c.find.ensures
    ∙ ap (λ (m : AllNames). get m (c.args.directory, c.args.name.now))
    (sym (overlaid-bare c.self.inside.base.now.names c.self.inside.changed.names (sym c.is_bare.ensures ∙ c.if-is_bare.true))
    ∙ c.self.view_is)

pub returns-in-Some : goal.returns-in-Some
returns-in-Some c = found-marked c.self.inside.base.now.names c.self.inside.changed.names (c.args.directory, c.args.name.now)
    c.in-Some.node c.in-Some.ensures c.if-node.true
    ∙ ap (λ (m : AllNames). get m (c.args.directory, c.args.name.now)) c.self.view_is

pub returns-in-Some-2 : goal.returns-in-Some-2
returns-in-Some-2 c = found-changed c.self.inside.base.now.names c.self.inside.changed.names (c.args.directory, c.args.name.now)
    c.in-Some.node c.in-Some.ensures c.if-node.false
    ∙ ap (λ (m : AllNames). get m (c.args.directory, c.args.name.now)) c.self.view_is

pub returns-in-None : goal.returns-in-None
returns-in-None c = c.find-in-None.ensures
    ∙ found-below c.self.inside.base.now.names c.self.inside.changed.names (c.args.directory, c.args.name.now) c.in-None.ensures
    ∙ ap (λ (m : AllNames). get m (c.args.directory, c.args.name.now)) c.self.view_is
