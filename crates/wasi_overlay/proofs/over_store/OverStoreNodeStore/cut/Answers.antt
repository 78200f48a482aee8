use Rattle.std.proofs.Common.{refl}
use Rattle.wasi_host.specs.Step.{other_bytes, with_size}
use Rattle.wasi_overlay.specs.OverStore.{overlay_parts}
use Rattle.wasi_overlay.proofs.OverSteps.{IsWritten, over_after, plain_bytes, shown_as, stays_after, writes}
use Rattle.wasi_overlay.proofs.TreeOver.{within_over}
use Rattle.wasi_overlay.proofs.over_store.OverStoreNodeStore.cut.Goals as goal

pub cut-requires-clause-within : goal.cut-requires-clause-within
cut-requires-clause-within c = within_over (overlay_parts c.self.inside.nodes c.self.inside.names c.self.inside.limits) c.self.view_is c.requires.within

written : (c : goal.After-cut)
    → IsWritten (other_bytes (with_size 0)) (overlay_parts c.self.inside.nodes c.self.inside.names c.self.inside.limits) (overlay_parts c.cut.new.self c.self.inside.names c.self.inside.limits) c.args.file
written c = record {
  within = within_over (overlay_parts c.self.inside.nodes c.self.inside.names c.self.inside.limits) c.self.view_is c.requires.within;
  nodes = c.cut.ensures.nodes;
  worked = c.cut.ensures.worked;
  names = refl;
  limits = refl;
}

pub invariant_of-self : goal.invariant_of-self
invariant_of-self c = over_after (writes (plain_bytes (with_size 0)) (written c) c.self.invariant)

pub returns-clause-cut : goal.returns-clause-cut
returns-clause-cut c = rw (← c.self.view_is)
    (shown_as (writes (plain_bytes (with_size 0)) (written c) c.self.invariant).is c.cut.ensures.touched)

pub returns-clause-stays : goal.returns-clause-stays
returns-clause-stays c = rw (← c.self.view_is) (stays_after (writes (plain_bytes (with_size 0)) (written c) c.self.invariant))
