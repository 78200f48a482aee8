use Rattle.wasi_host.specs.Step.{times_set}
use Rattle.wasi_overlay.specs.OverStore.{OverlayParts, overlay_parts, tree_over}
use Rattle.wasi_overlay.proofs.OverSteps.{IsStep, over_after, shown_as, stays_after, times}
use Rattle.wasi_overlay.proofs.TreeOver.{within_over}
use Rattle.wasi_overlay.proofs.over_store.OverStoreNodeStore.set_times.Goals as goal

pub set_times-requires-clause-within : goal.set_times-requires-clause-within
set_times-requires-clause-within c = within_over (overlay_parts c.self.inside.nodes c.self.inside.names c.self.inside.limits) c.self.view_is c.requires.within

step : (c : goal.After-set_times)
    → IsStep (overlay_parts c.self.inside.nodes c.self.inside.names c.self.inside.limits) (overlay_parts c.set_times.new.self c.self.inside.names c.self.inside.limits)
    (times_set (tree_over (overlay_parts c.self.inside.nodes c.self.inside.names c.self.inside.limits)) c.args.node c.args.atime c.args.mtime) c.self.inside.parents.parents
step c = times c.args.atime c.args.mtime (within_over (overlay_parts c.self.inside.nodes c.self.inside.names c.self.inside.limits) c.self.view_is c.requires.within)
    (λ i. let parts : OverlayParts = record {
      nodes = c.set_times.ensures.nodes i;
      names = c.self.inside.names;
      limits = c.self.inside.limits;
      worked = c.set_times.ensures.worked i;
    } in parts) c.self.invariant

pub invariant_of-self : goal.invariant_of-self
invariant_of-self c = over_after (step c)

pub returns-clause-set : goal.returns-clause-set
returns-clause-set c = rw (← c.self.view_is) (shown_as (step c).is c.set_times.ensures.touched)

pub returns-clause-stays : goal.returns-clause-stays
returns-clause-stays c = rw (← c.self.view_is) (stays_after (step c))
