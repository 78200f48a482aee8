use Rattle.std.proofs.Common.{◌≡◌, ◌∙◌, true, sym, subst}
use Rattle.wasi_host.specs.Tree.{is_directory, node_at}
use Rattle.wasi_tree.proofs.WayLemmas.{way_is_below}
use Rattle.wasi_overlay.specs.OverStore.{Overlaid}
use Rattle.wasi_overlay.proofs.over_store.OverStoreNodeStore.is_below.Goals as goal

pub returns : goal.returns
returns c =
    let directory = subst (λ (o : Overlaid). is_directory (node_at o.tree c.args.directory).content ≡ true)
    (sym c.self.view_is) c.requires.directory in
    rw (← c.self.view_is)
    (c.is_below.ensures ∙ way_is_below c.self.invariant.kept.stand c.args.top c.args.directory directory)
