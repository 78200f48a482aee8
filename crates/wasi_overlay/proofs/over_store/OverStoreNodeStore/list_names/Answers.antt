use Rattle.std.proofs.Common.{◌≡◌, ◌∙◌, ◌++◌, true, List, map, sym, ap, subst}
use Rattle.std.proofs.lemmas.List.{append-nil}
use Rattle.std.specs.List.{All}
use Rattle.std.specs.FinMap as maps
use Rattle.wasi_paths.specs.Text.{is_entry_name}
use Rattle.wasi_host.specs.Answer.{Listed, entry_of, listed}
use Rattle.wasi_host.specs.Tree.{Tree, node_at, names_of, next_of, is_directory}
use Rattle.wasi_tree.specs.Sound.{IsSoundNode}
use Rattle.wasi_tree.proofs.ListLemmas.{listed_good}
use Rattle.wasi_overlay.specs.OverStore.{Overlaid, overlay_parts, tree_over}
use Rattle.wasi_overlay.proofs.TreeOver.{names_over}
use Rattle.wasi_overlay.proofs.over_store.OverStoreNodeStore.list_names.Goals as goal

pub loop-name-init : goal.loop-name-init
loop-name-init c =
    let directory = subst (λ (o : Overlaid). is_directory (node_at o.tree c.args.directory).content ≡ true) (sym c.self.view_is) c.requires in
    rw (← c.self.view_is)
    (ap (λ es. map entry_of es ++ map (listed (tree_over (overlay_parts c.self.inside.nodes c.self.inside.names c.self.inside.limits))) c.names-names.result) c.new-entries.ensures.items
    ∙ ap (map (listed (tree_over (overlay_parts c.self.inside.nodes c.self.inside.names c.self.inside.limits)))) (c.names-names.ensures ∙ ap maps.entries (sym (names_over (overlay_parts c.self.inside.nodes c.self.inside.names c.self.inside.limits) c.args.directory directory))))

-- the names are those of a sound node
pub returns-clause-named : goal.returns-clause-named
returns-clause-named c =
    let t : Tree = c.args.self.now.tree in
    let all : map entry_of c.loop-name.entries.items ≡ map (listed t) (maps.entries (names_of (node_at t c.args.directory).content)) =
    sym (append-nil (map entry_of c.loop-name.entries.items))
    ∙ ap (λ ns. map entry_of c.loop-name.entries.items ++ map (listed t) ns) (sym c.in_default.ensures.0) ∙ c.loop-name.invariant in
    subst (λ (l : List Listed). All (λ (entry : Listed). is_entry_name entry.0 ≡ true) l) (sym all)
    (listed_good t (next_of t) (node_at t c.args.directory)
    (subst (λ (o : Overlaid). IsSoundNode (next_of o.tree) (node_at o.tree c.args.directory)) c.self.view_is
    (c.self.invariant.sound.nodes c.args.directory)))
