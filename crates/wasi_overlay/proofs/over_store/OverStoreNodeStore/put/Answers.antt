use Rattle.std.proofs.Common.{refl}
use Rattle.std.proofs.lemmas.Result.{on_ok_weaker}
use Rattle.wasi_host.specs.Step.{content_changed, other_bytes, with_piece}
use Rattle.wasi_overlay.specs.OverNodes.{OverState}
use Rattle.wasi_overlay.specs.OverStore.{overlay_parts, tree_over}
use Rattle.wasi_overlay.proofs.OverSteps.{MaybeStep, maybe_writes, on_both, on_same, plain_bytes, shown_as}
use Rattle.wasi_overlay.proofs.TreeOver.{within_over}
use Rattle.wasi_overlay.proofs.over_store.OverStoreNodeStore.put.Goals as goal

pub put-requires-clause-within : goal.put-requires-clause-within
put-requires-clause-within c = within_over (overlay_parts c.self.inside.nodes c.self.inside.names c.self.inside.limits) c.self.view_is c.requires.within

step : (c : goal.After-put)
    → MaybeStep c.put.result (overlay_parts c.self.inside.nodes c.self.inside.names c.self.inside.limits) (overlay_parts c.put.new.self c.self.inside.names c.self.inside.limits)
    (content_changed (tree_over (overlay_parts c.self.inside.nodes c.self.inside.names c.self.inside.limits)) c.args.file (other_bytes (λ bytes. with_piece bytes c.args.offset c.args.piece.now))) c.self.inside.parents.parents
step c = maybe_writes c.put.result c.args.file (plain_bytes (λ bytes. with_piece bytes c.args.offset c.args.piece.now))
    (on_both c.put.result (λ nodes worked. record {
      within = within_over (overlay_parts c.self.inside.nodes c.self.inside.names c.self.inside.limits) c.self.view_is c.requires.within;
      nodes = nodes;
      worked = worked;
      names = refl;
      limits = refl;
    }) c.put.ensures.nodes c.put.ensures.worked)
    (on_same c.put.result (λ (nodes : OverState). overlay_parts nodes c.self.inside.names c.self.inside.limits) _ _ c.put.ensures.kept)
    c.self.invariant

pub invariant_of-self : goal.invariant_of-self
invariant_of-self c = (step c).over

pub returns-clause-put : goal.returns-clause-put
returns-clause-put c = rw (← c.self.view_is)
    (on_ok_weaker c.put.result (λ is. shown_as is c.put.ensures.touched) (step c).is)

pub returns-clause-stays : goal.returns-clause-stays
returns-clause-stays c = rw (← c.self.view_is) (step c).stays
