use Rattle.std.proofs.Common.{◌∙◌, Some, slice_set, sym, ap, subst, arith}
use Rattle.std.specs.FinMap as maps
use Rattle.std.specs.FinSet.{insert}
use Rattle.wasi_paths.specs.Name.{name_bytes}
use Rattle.wasi_host.specs.Tree.{Names, Nodes}
use Rattle.wasi_host.specs.Step.{name_moved_onto}
use Rattle.wasi_host.proofs.Changes.{directory_within}
use Rattle.wasi_tree_index.proofs.NamesLemmas.{get-names_at}
use Rattle.wasi_tree_index.specs.DirEntryKeys.{Key}
use Rattle.wasi_tree.proofs.MoveLemmas.{names_apart}
use Rattle.wasi_tree.specs.Move.{IsMove}
use Rattle.wasi_overlay.specs.OverStore.{Overlaid, OverlayParts, nodes_lost, overlay_parts, tree_over, worked_lost}
use Rattle.wasi_overlay.proofs.OverSteps.{IsStep, length-lost, moves, over_after, shown_as, stays_after}
use Rattle.wasi_overlay.proofs.TreeOver.{names_over, over_next}
use Rattle.wasi_overlay.proofs.over_store.OverStoreNodeStore.move_name.Goals as goal
use Rattle.wasi_tree.specs.ParentOf.{without_parent}
use Rattle.wasi_overlay.proofs.over_store.OverStoreNodeStore.move_name.Goals.{After-hold_both, After-work-2}

may : (c : After-hold_both)
    → IsMove (tree_over (overlay_parts c.self.inside.nodes c.self.inside.names c.self.inside.limits)) c.args.old (name_bytes c.args.old_name) c.args.new (name_bytes c.args.new_name) c.args.node c.args.there
may c = subst (λ (o : Overlaid). IsMove o.tree c.args.old (name_bytes c.args.old_name) c.args.new (name_bytes c.args.new_name)
    c.args.node c.args.there) (sym c.self.view_is) c.requires.may

pub rename-requires-clause-held : goal.rename-requires-clause-held
rename-requires-clause-held c =
    let is = may (goal.at.rename-requires-clause-held c).After-hold_both in
    ap (λ text. maps.get c.self.inside.names (c.args.old, text)) c.as_str.ensures.text
    ∙ sym (get-names_at c.self.inside.names c.args.old (name_bytes c.args.old_name))
    ∙ ap (λ (names : Names). maps.get names (name_bytes c.args.old_name)) (sym (names_over (overlay_parts c.self.inside.nodes c.self.inside.names c.self.inside.limits) c.args.old is.from)) ∙ is.named

pub rename-requires-clause-apart : goal.rename-requires-clause-apart
rename-requires-clause-apart c = λ same.
    names_apart _ _ _ _ _ _ (may (goal.at.rename-requires-clause-apart c).After-hold_both) (ap (λ (k : Key). k.0) same)
    (sym c.as_str.ensures.text ∙ ap (λ (k : Key). k.1) same ∙ c.as_str-2.ensures.text)

pub work-requires-clause-within : goal.work-requires-clause-within
work-requires-clause-within c =
    let to = (may (goal.at.work-requires-clause-within c).After-hold_both).to in
    omega (arith, directory_within _ _ to, over_next (overlay_parts c.self.inside.nodes c.self.inside.names c.self.inside.limits))

pub lose_found-requires-clause-within : goal.lose_found-requires-clause-within
lose_found-requires-clause-within c = λ m there.
    let lost = (may (goal.at.lose_found-requires-clause-within c).After-hold_both).lost m there in
    rw c.work.ensures.nodes (omega (arith, lost.0, over_next (overlay_parts c.self.inside.nodes c.self.inside.names c.self.inside.limits)))

pub work-requires-2-clause-within : goal.work-requires-2-clause-within
work-requires-2-clause-within c =
    let from = (may (goal.at.work-requires-2-clause-within c).After-hold_both).from in
    rw (c.lose_found.ensures.nodes, c.work.ensures.nodes) (omega (
      arith,
      directory_within _ _ from,
      over_next (overlay_parts c.self.inside.nodes c.self.inside.names c.self.inside.limits),
      length-lost c.self.inside.nodes.nodes c.args.there,
    ))

step : (c : After-work-2)
    → IsStep (overlay_parts c.self.inside.nodes c.self.inside.names c.self.inside.limits) (overlay_parts c.work-2.new.self c.rename.new.self c.self.inside.limits)
    (name_moved_onto (tree_over (overlay_parts c.self.inside.nodes c.self.inside.names c.self.inside.limits)) c.args.old (name_bytes c.args.old_name) c.args.new (name_bytes c.args.new_name) c.args.node c.args.there)
    (slice_set (without_parent c.self.inside.parents.parents c.args.there) c.args.node (Some c.args.new))
step c = moves (subst (λ (o : Overlaid). IsMove o.tree c.args.old (name_bytes c.args.old_name) c.args.new (name_bytes c.args.new_name)
    c.args.node c.args.there) (sym c.self.view_is) c.requires.may)
    (λ i. let parts : OverlayParts = record {
      nodes = (c.work-2.ensures.nodes ∙ c.lose_found.ensures.nodes
          ∙ ap (λ nodes. nodes_lost nodes c.args.there) c.work.ensures.nodes) i;
      names = (c.in_ok-rename.ensures.renamed ∙ (λ j. maps.remove (maps.insert c.self.inside.names
          (c.args.new, c.as_str-2.ensures.text j) c.args.node) (c.args.old, c.as_str.ensures.text j))) i;
      limits = c.self.inside.limits;
      worked = (c.work-2.ensures.worked ∙ ap (λ (worked : Nodes). insert worked c.args.old)
          (c.lose_found.ensures.worked ∙ ap (λ worked. worked_lost worked c.args.there) c.work.ensures.worked)) i;
    } in parts) c.self.invariant

pub invariant_of-self-2 : goal.invariant_of-self-2
invariant_of-self-2 c = rw (c.replace.ensures.parents, c.in_ok-hold_both.ensures.same) (over_after (step (goal.at.invariant_of-self-2 c).After-work-2))

pub returns-clause-moved : goal.returns-clause-moved
returns-clause-moved c = rw (← c.self.view_is) (shown_as (step (goal.at.returns-clause-moved c).After-work-2).is
    (c.work-2.ensures.touched ∙ c.lose_found.ensures.touched ∙ c.work.ensures.touched))

pub returns-clause-stays : goal.returns-clause-stays
returns-clause-stays c = rw (← c.self.view_is) (stays_after (step (goal.at.returns-clause-stays c).After-work-2))
