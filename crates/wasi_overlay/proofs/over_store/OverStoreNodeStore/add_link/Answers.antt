use Rattle.std.proofs.Common.{◌∙◌, slice_set, slice_index_or, refl, sym, ap, subst, arith}
use Rattle.std.specs.FinMap as maps
use Rattle.std.specs.FinSet.{insert}
use Rattle.wasi_paths.specs.Name.{name_bytes}
use Rattle.wasi_host.specs.Tree.{links_of, stray}
use Rattle.wasi_host.specs.Step.{with_content, name_added, one_name_more}
use Rattle.wasi_host.proofs.Changes.{directory_within}
use Rattle.wasi_tree.specs.Move.{MayGain}
use Rattle.wasi_overlay.specs.OverStore.{Overlaid, OverlayParts, overlay_parts, tree_over}
use Rattle.wasi_overlay.proofs.OverSteps.{IsStep, links, over_after, shown_as, stays_after}
use Rattle.wasi_overlay.proofs.TreeOver.{over_next, over_says, within_over}
use Rattle.wasi_overlay.proofs.over_store.OverStoreNodeStore.add_link.Goals as goal
use Rattle.wasi_overlay.proofs.over_store.OverStoreNodeStore.add_link.Goals.{After-gain_name, After-as_str}

gains : (c : After-as_str) → MayGain (tree_over (overlay_parts c.self.inside.nodes c.self.inside.names c.self.inside.limits)) c.args.directory (name_bytes c.args.name) c.args.node
gains c = subst (λ (o : Overlaid). MayGain o.tree c.args.directory (name_bytes c.args.name) c.args.node) (sym c.self.view_is) c.requires.may

pub work-requires-clause-within : goal.work-requires-clause-within
work-requires-clause-within c =
    let directory = (gains (goal.at.work-requires-clause-within c).After-as_str).may.directory in
    omega (arith, directory_within _ _ directory, over_next (overlay_parts c.self.inside.nodes c.self.inside.names c.self.inside.limits))

pub gain_name-requires-clause-within : goal.gain_name-requires-clause-within
gain_name-requires-clause-within c =
    rw c.work.ensures.nodes (within_over (overlay_parts c.self.inside.nodes c.self.inside.names c.self.inside.limits) c.self.view_is c.requires.may.within)

pub gain_name-requires-clause-room : goal.gain_name-requires-clause-room
gain_name-requires-clause-room c =
    rw (c.work.ensures.nodes, over_says (overlay_parts c.self.inside.nodes c.self.inside.names c.self.inside.limits) links_of (λ _ _ _. refl) c.args.node)
    (subst (λ (o : Overlaid). MayGain o.tree c.args.directory (name_bytes c.args.name) c.args.node) (sym c.self.view_is) c.requires.may).links

step : (c : After-gain_name)
    → IsStep (overlay_parts c.self.inside.nodes c.self.inside.names c.self.inside.limits) (overlay_parts c.gain_name.new.self c.put.new.self c.self.inside.limits)
    (name_added (tree_over (overlay_parts c.self.inside.nodes c.self.inside.names c.self.inside.limits)) c.args.directory (name_bytes c.args.name) c.args.node) c.self.inside.parents.parents
step c = links (subst (λ (o : Overlaid). MayGain o.tree c.args.directory (name_bytes c.args.name) c.args.node) (sym c.self.view_is) c.requires.may)
    (λ i. let parts : OverlayParts = record {
      nodes = (c.gain_name.ensures.nodes
          ∙ ap (λ nodes. slice_set nodes c.args.node (with_content (slice_index_or nodes c.args.node stray) one_name_more)) c.work.ensures.nodes) i;
      names = (c.in_ok-put.ensures.put
          ∙ ap (λ text. maps.insert c.self.inside.names (c.args.directory, text) c.args.node) c.as_str.ensures.text) i;
      limits = c.self.inside.limits;
      worked = (c.gain_name.ensures.worked ∙ ap (λ worked. insert worked c.args.node) c.work.ensures.worked) i;
    } in parts) c.self.invariant

pub invariant_of-self-2 : goal.invariant_of-self-2
invariant_of-self-2 c = over_after (step c)

pub returns-clause-added : goal.returns-clause-added
returns-clause-added c = rw (← c.self.view_is)
    (shown_as (step c).is (c.gain_name.ensures.touched ∙ c.work.ensures.touched))

pub returns-clause-stays : goal.returns-clause-stays
returns-clause-stays c = rw (← c.self.view_is) (stays_after (step c))
