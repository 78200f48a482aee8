use Rattle.std.proofs.Common.{◌≡◌, ◌∙◌, true, sym, ap, subst}
use Rattle.std.specs.FinMap as maps
use Rattle.wasi_host.specs.Tree.{Names, node_at, is_directory}
use Rattle.wasi_tree_index.proofs.NamesLemmas.{get-names_at}
use Rattle.wasi_tree.proofs.NameLemmas.{get-no_names, no_names_of}
use Rattle.wasi_overlay.specs.OverStore.{Overlaid, overlay_parts}
use Rattle.wasi_overlay.proofs.TreeOver.{names_over}
use Rattle.wasi_overlay.proofs.over_store.OverStore.entry.Goals as goal

pub returns-then-not-is_directory : goal.returns-then-not-is_directory
returns-then-not-is_directory c =
    sym (ap (λ (names : Names). maps.get names c.args.name.now) (no_names_of _ (sym c.is_directory.ensures ∙ c.if-not-is_directory.true))
    ∙ get-no_names c.args.name.now)

pub returns : goal.returns
returns c =
    let directory = subst (λ (o : Overlaid). is_directory (node_at o.tree c.args.directory).content ≡ true) (sym c.self.view_is)
    (sym c.is_directory.ensures ∙ c.if-not-is_directory.false) in
    rw (← c.self.view_is) (c.find.ensures ∙ sym (get-names_at c.self.inside.names c.args.directory c.args.name.now)
    ∙ ap (λ (names : Names). maps.get names c.args.name.now)
    (sym (names_over (overlay_parts c.self.inside.nodes c.self.inside.names c.self.inside.limits) c.args.directory directory)))
