use Rattle.std.proofs.Common.{◌≡◌, ◌∙◌, true, sym, ap, subst}
use Rattle.std.specs.Prelude.{nat_eq}
use Rattle.std.specs.FinMap as maps
use Rattle.wasi_host.specs.Tree.{is_directory, node_at}
use Rattle.wasi_overlay.specs.OverStore.{Overlaid, overlay_parts}
use Rattle.wasi_overlay.proofs.TreeOver.{names_over}
use Rattle.wasi_overlay.proofs.over_store.OverStoreNodeStore.is_bare.Goals as goal

pub returns : goal.returns
returns c =
    let directory = subst (λ (o : Overlaid). is_directory (node_at o.tree c.args.directory).content ≡ true)
    (sym c.self.view_is) c.requires in
    rw (← c.self.view_is) (c.is_empty.ensures
    ∙ ap (λ names. nat_eq (maps.len names) 0) (sym (names_over (overlay_parts c.self.inside.nodes c.self.inside.names c.self.inside.limits) c.args.directory directory)))
