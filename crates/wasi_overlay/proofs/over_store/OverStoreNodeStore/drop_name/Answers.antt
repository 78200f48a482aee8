use Rattle.std.proofs.Common.{◌∙◌, None, slice_set, slice_index_or, sym, ap, subst, arith}
use Rattle.std.specs.FinMap as maps
use Rattle.std.specs.FinSet.{insert}
use Rattle.wasi_paths.specs.Name.{name_bytes}
use Rattle.wasi_host.specs.Tree.{stray}
use Rattle.wasi_host.specs.Step.{with_content, name_dropped, name_lost}
use Rattle.wasi_host.proofs.Changes.{directory_within}
use Rattle.wasi_tree.specs.Move.{HasName}
use Rattle.wasi_overlay.specs.OverStore.{Overlaid, OverlayParts, overlay_parts, tree_over}
use Rattle.wasi_overlay.proofs.OverSteps.{IsStep, drops, over_after, shown_as, stays_after}
use Rattle.wasi_overlay.proofs.TreeOver.{over_next, within_over}
use Rattle.wasi_overlay.proofs.over_store.OverStoreNodeStore.drop_name.Goals as goal
use Rattle.wasi_overlay.proofs.over_store.OverStoreNodeStore.drop_name.Goals.{After-hold, After-set}

has : (c : After-hold) → HasName (tree_over (overlay_parts c.self.inside.nodes c.self.inside.names c.self.inside.limits)) c.args.directory (name_bytes c.args.name) c.args.node
has c = subst (λ (o : Overlaid). HasName o.tree c.args.directory (name_bytes c.args.name) c.args.node) (sym c.self.view_is) c.requires.has

pub work-requires-clause-within : goal.work-requires-clause-within
work-requires-clause-within c =
    let directory = (has (goal.at.work-requires-clause-within c).After-hold).directory in
    omega (arith, directory_within _ _ directory, over_next (overlay_parts c.self.inside.nodes c.self.inside.names c.self.inside.limits))

pub lose_name-requires-clause-within : goal.lose_name-requires-clause-within
lose_name-requires-clause-within c =
    rw c.work.ensures.nodes (within_over (overlay_parts c.self.inside.nodes c.self.inside.names c.self.inside.limits) c.self.view_is c.requires.has.within)

step : (c : After-set)
    → IsStep (overlay_parts c.self.inside.nodes c.self.inside.names c.self.inside.limits) (overlay_parts c.lose_name.new.self c.take.new.self c.self.inside.limits)
    (name_dropped (tree_over (overlay_parts c.self.inside.nodes c.self.inside.names c.self.inside.limits)) c.args.directory (name_bytes c.args.name) name_lost c.args.node)
    (slice_set c.self.inside.parents.parents c.args.node None)
step c = drops (subst (λ (o : Overlaid). HasName o.tree c.args.directory (name_bytes c.args.name) c.args.node) (sym c.self.view_is) c.requires.has)
    (λ i. let parts : OverlayParts = record {
      nodes = (c.lose_name.ensures.nodes
          ∙ ap (λ nodes. slice_set nodes c.args.node (with_content (slice_index_or nodes c.args.node stray) name_lost)) c.work.ensures.nodes) i;
      names = (c.in_ok-take.ensures.taken
          ∙ ap (λ text. maps.remove c.self.inside.names (c.args.directory, text)) c.as_str.ensures.text) i;
      limits = c.self.inside.limits;
      worked = (c.lose_name.ensures.worked ∙ ap (λ worked. insert worked c.args.node) c.work.ensures.worked) i;
    } in parts) c.self.invariant

pub invariant_of-self-2 : goal.invariant_of-self-2
invariant_of-self-2 c =
    rw (c.set.ensures.parents, c.hold.ensures.parents) (over_after (step c))

pub returns-clause-dropped : goal.returns-clause-dropped
returns-clause-dropped c = rw (← c.self.view_is)
    (shown_as (step c).is (c.lose_name.ensures.touched ∙ c.work.ensures.touched))

pub returns-clause-stays : goal.returns-clause-stays
returns-clause-stays c = rw (← c.self.view_is) (stays_after (step c))
