use Rattle.std.proofs.Common.{◌≡◌, ◌++◌, ◌∙◌, true, map, sym, ap, subst}
use Rattle.std.specs.FinMap as maps
use Rattle.wasi_host.specs.Tree.{node_at, is_directory}
use Rattle.wasi_tree.specs.NodeData.{pair_of}
use Rattle.wasi_overlay.specs.OverStore.{Overlaid, overlay_parts}
use Rattle.wasi_overlay.proofs.TreeOver.{names_over}
use Rattle.wasi_overlay.proofs.over_store.OverStore.new_entries.Goals as goal

pub loop-name-init : goal.loop-name-init
loop-name-init c =
    let directory = subst (λ (o : Overlaid). is_directory (node_at o.tree c.args.directory).content ≡ true) (sym c.self.view_is) c.requires in
    rw (← c.self.view_is) (ap (λ es. map pair_of es ++ c.names-names.result) c.new-entries.ensures.items
    ∙ c.names-names.ensures ∙ ap maps.entries (sym (names_over (overlay_parts c.self.inside.nodes c.self.inside.names c.self.inside.limits) c.args.directory directory)))
