use Rattle.std.proofs.Common.{◌≡◌, ◌∙◌, ◌++◌, ◌∷◌, [], Some, length, sym, ap, subst, arith}
use Rattle.std.specs.FinMap as maps
use Rattle.std.specs.FinSet.{insert}
use Rattle.wasi_paths.specs.Name.{name_bytes}
use Rattle.wasi_host.specs.Tree.{Nodes}
use Rattle.wasi_host.specs.Step.{node_made}
use Rattle.wasi_host.proofs.Changes.{directory_within}
use Rattle.wasi_tree.specs.Move.{MayName}
use Rattle.wasi_overlay.specs.OverStore.{Overlaid, OverlayParts, overlay_parts, tree_over}
use Rattle.wasi_overlay.proofs.OverSteps.{IsStep, makes, over_after, shown_as, stays_after}
use Rattle.wasi_overlay.proofs.TreeOver.{over_next}
use Rattle.wasi_overlay.proofs.over_store.OverStoreNodeStore.make_node.Goals as goal
use Rattle.wasi_tree.specs.StoredTree.{stored_node}
use Rattle.wasi_tree.proofs.NamedLemmas.{named_inode}
use Rattle.wasi_overlay.proofs.over_store.OverStoreNodeStore.make_node.Goals.{After-push}

pub work-requires-clause-within : goal.work-requires-clause-within
work-requires-clause-within c =
    let may = subst (λ (o : Overlaid). MayName o.tree c.args.directory (name_bytes c.args.name)) (sym c.self.view_is) c.requires.may in
    rw c.reserve.ensures.nodes (omega (arith, directory_within _ _ may.directory, over_next (overlay_parts c.self.inside.nodes c.self.inside.names c.self.inside.limits)))

nodes : (c : After-push) → c.push.new.self.nodes ≡ c.self.inside.nodes.nodes ++ stored_node c.args.inode ∷ []
nodes c = c.push.ensures.nodes ∙ ap (λ nodes. nodes ++ stored_node c.args.inode ∷ []) (c.work.ensures.nodes ∙ c.reserve.ensures.nodes)

-- how many there were
count : (c : After-push) → length c.work.new.self.nodes ≡ length c.self.inside.nodes.nodes
count c = ap length (c.work.ensures.nodes ∙ c.reserve.ensures.nodes)

step : (c : After-push)
    → IsStep (overlay_parts c.self.inside.nodes c.self.inside.names c.self.inside.limits) (overlay_parts c.push.new.self c.put.new.self c.self.inside.limits)
    (node_made (tree_over (overlay_parts c.self.inside.nodes c.self.inside.names c.self.inside.limits)) c.args.directory (name_bytes c.args.name) (stored_node c.args.inode))
    (c.self.inside.parents.parents ++ Some c.args.directory ∷ [])
step c = makes (subst (λ (o : Overlaid). MayName o.tree c.args.directory (name_bytes c.args.name)) (sym c.self.view_is) c.requires.may)
    c.requires.sound (named_inode c.args.inode)
    (λ i. let parts : OverlayParts = record {
      nodes = nodes c i;
      names = (c.in_ok-put.ensures.put
          ∙ (λ j. maps.insert c.self.inside.names (c.args.directory, c.as_str.ensures.text j) (c.count-node.ensures j))) i;
      limits = c.self.inside.limits;
      worked = (c.push.ensures.worked ∙ (λ j. insert ((c.work.ensures.worked
          ∙ ap (λ (worked : Nodes). insert worked c.args.directory) c.reserve.ensures.worked) j) (count c j))) i;
    } in parts) c.self.invariant

pub invariant_of-self-2 : goal.invariant_of-self-2
invariant_of-self-2 c =
    rw (c.push-2.ensures.parents, c.reserve-2.ensures.parents) (over_after (step (goal.at.invariant_of-self-2 c).After-push))

pub returns-clause-number : goal.returns-clause-number
returns-clause-number c = rw (← c.self.view_is) (c.count-node.ensures ∙ sym (over_next (overlay_parts c.self.inside.nodes c.self.inside.names c.self.inside.limits)))

pub returns-clause-made : goal.returns-clause-made
returns-clause-made c =
    let at = (goal.at.returns-clause-made c).After-push in
    rw (← c.self.view_is) (shown_as (step at).is
    (c.push.ensures.touched ∙ (λ i. insert ((c.work.ensures.touched ∙ c.reserve.ensures.touched) i)
    ((count at ∙ sym (over_next (overlay_parts c.self.inside.nodes c.self.inside.names c.self.inside.limits))) i))))

pub returns-clause-stays : goal.returns-clause-stays
returns-clause-stays c = rw (← c.self.view_is) (stays_after (step (goal.at.returns-clause-stays c).After-push))
