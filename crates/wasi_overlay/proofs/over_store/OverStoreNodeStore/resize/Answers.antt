use Rattle.std.proofs.Common.{refl}
use Rattle.std.proofs.lemmas.Result.{on_ok_weaker}
use Rattle.wasi_host.specs.Step.{content_changed, other_bytes, with_size}
use Rattle.wasi_overlay.specs.OverNodes.{OverState}
use Rattle.wasi_overlay.specs.OverStore.{overlay_parts, tree_over}
use Rattle.wasi_overlay.proofs.OverSteps.{MaybeStep, maybe_writes, on_both, on_same, plain_bytes, shown_as}
use Rattle.wasi_overlay.proofs.TreeOver.{within_over}
use Rattle.wasi_overlay.proofs.over_store.OverStoreNodeStore.resize.Goals as goal

pub resize-requires-clause-within : goal.resize-requires-clause-within
resize-requires-clause-within c = within_over (overlay_parts c.self.inside.nodes c.self.inside.names c.self.inside.limits) c.self.view_is c.requires.within

step : (c : goal.After-resize)
    → MaybeStep c.resize.result (overlay_parts c.self.inside.nodes c.self.inside.names c.self.inside.limits) (overlay_parts c.resize.new.self c.self.inside.names c.self.inside.limits)
    (content_changed (tree_over (overlay_parts c.self.inside.nodes c.self.inside.names c.self.inside.limits)) c.args.file (other_bytes (with_size c.args.size))) c.self.inside.parents.parents
step c = maybe_writes c.resize.result c.args.file (plain_bytes (with_size c.args.size))
    (on_both c.resize.result (λ nodes worked. record {
      within = within_over (overlay_parts c.self.inside.nodes c.self.inside.names c.self.inside.limits) c.self.view_is c.requires.within;
      nodes = nodes;
      worked = worked;
      names = refl;
      limits = refl;
    }) c.resize.ensures.nodes c.resize.ensures.worked)
    (on_same c.resize.result (λ (nodes : OverState). overlay_parts nodes c.self.inside.names c.self.inside.limits) _ _ c.resize.ensures.kept)
    c.self.invariant

pub invariant_of-self : goal.invariant_of-self
invariant_of-self c = (step c).over

pub returns-clause-sized : goal.returns-clause-sized
returns-clause-sized c = rw (← c.self.view_is)
    (on_ok_weaker c.resize.result (λ is. shown_as is c.resize.ensures.touched) (step c).is)

pub returns-clause-stays : goal.returns-clause-stays
returns-clause-stays c = rw (← c.self.view_is) (step c).stays
