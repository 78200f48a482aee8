use Rattle.std.proofs.Common.{refl, ◌∙◌}
use Rattle.wasi_resolve.proofs.Calls.{close_stays, stayed_then}
use Rattle.wasi_resolve.proofs.Stacks.{first_live, popped_live, popped_stands}
use Rattle.wasi_resolve.proofs.stack.close_all.Goals as goal

pub close-requires : goal.close-requires
close-requires g c = popped_live _ _ (c.loop-handle.invariant.stands _ c.requires.1) c.in-Some.ensures.items refl

pub loop-handle-preserved : goal.loop-handle-preserved
loop-handle-preserved g c = record {
  stands = λ first stands.
      popped_stands _ _ (c.loop-handle.invariant.stands first stands) c.in-Some.ensures.items refl c.close.ensures.live;
  faults = c.close.ensures.faults ∙ c.loop-handle.invariant.faults;
  logged = c.close.ensures.logged ∙ c.loop-handle.invariant.logged;
  modelled = λ modelled first stands.
      let now = c.loop-handle.invariant.stands first stands in
      let under = popped_stands _ _ now c.in-Some.ensures.items refl c.close.ensures.live in
      stayed_then (c.loop-handle.invariant.modelled modelled first stands)
      (close_stays (c.close.ensures.modelled modelled) (λ q is. (first_live now q is, first_live under q is)));
}
