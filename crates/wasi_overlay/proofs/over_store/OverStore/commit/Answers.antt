use Rattle.std.proofs.Common.{◌∙◌, ap, subst}
use Rattle.std.proofs.lemmas.Result.{IfOk-weaker}
use Rattle.wasi_host.specs.Tree.{next_of}
use Rattle.wasi_tree.specs.ParentOf.{AreParents}
use Rattle.wasi_tree.specs.Sound.{IsSound}
use Rattle.wasi_overlay.specs.OverStore.{Overlaid}
use Rattle.wasi_overlay.proofs.Copies.{AreCopied, copied_stand, copied_stored, copied_tree}
use Rattle.wasi_overlay.proofs.over_store.OverStore.commit.Goals as goal
use Rattle.wasi_overlay.proofs.over_store.OverStore.commit.Goals.{After-to_vec}

copied : (c : After-to_vec) → AreCopied c.args.self.now.tree c.in_ok-rows.rows.items c.in_ok-names.names.names c.self.inside.limits
copied c = record {
  nodes = c.in_ok-rows.ensures;
  names = c.in_ok-names.ensures;
  limits = ap (λ (o : Overlaid). o.tree.limits) c.self.view_is;
}

pub of_stored-requires-clause-stored : goal.of_stored-requires-clause-stored
of_stored-requires-clause-stored c = copied_stored (copied (goal.at.of_stored-requires-clause-stored c).After-to_vec)
    (subst (λ (o : Overlaid). IsSound o.tree (next_of o.tree)) c.self.view_is c.self.invariant.sound)

pub of_stored-requires-clause-stand : goal.of_stored-requires-clause-stand
of_stored-requires-clause-stand c = copied_stand (copied (goal.at.of_stored-requires-clause-stand c).After-to_vec)
    (rw c.in_ok-parents.ensures (subst (λ (o : Overlaid). AreParents o.tree c.self.inside.parents.parents) c.self.view_is c.self.invariant.kept.stand))

pub returns-clause-tree : goal.returns-clause-tree
returns-clause-tree c =
    IfOk-weaker c.of_stored.result _ _ (λ m is. is ∙ copied_tree (copied (goal.at.returns-clause-tree c).After-to_vec)) c.of_stored.ensures.tree
