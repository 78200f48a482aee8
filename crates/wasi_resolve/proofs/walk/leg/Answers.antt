use Rattle.std.proofs.Common.{◌∙◌, sym, ap, [], ◌∷◌, length, refl, arith, length-append}
use Rattle.std.specs.Prelude.{◌==◌}
use Rattle.std.proofs.lemmas.Result.{err_from_is_err_and}
use Rattle.wasi_host.proofs.Tracing.{traced_none, traced_then}
use Rattle.wasi_resolve.specs.Left.{parts_left}
use Rattle.wasi_resolve.specs.WalkState.{way}
use Rattle.wasi_resolve.proofs.Legs.{same_here}
use Rattle.wasi_resolve.proofs.Putting.{popped_parts}
use Rattle.wasi_resolve.proofs.Going.{goes_then, fails_then, stops_then, goes_dot, nil_left}
use Rattle.wasi_resolve.proofs.walk.leg.Goals as goal

pub loop-part-init : goal.loop-part-init
loop-part-init g c = record {
  later = omega arith;
  most = refl;
  stands = λ first stands. stands;
  provenance = traced_none _ _ _ _ _ refl (λ q has. has);
  reads = record { calls = omega arith; links = omega arith };
  modelled = λ modelled first w stands walked. record { walked = walked; same = same_here _ _ _ _ };
}

pub step-requires : goal.step-requires
step-requires g c = (c.requires.0, c.loop-part.invariant.stands _ c.requires.1)

pub returns-in_err-stopped-clause-provenance : goal.returns-in_err-stopped-clause-provenance
returns-in_err-stopped-clause-provenance g c =
    traced_then (λ q has. has) (λ q has. has) c.loop-part.invariant.provenance c.in_err-stopped.ensures.provenance

pub returns-in-Some-stopped-clause-provenance : goal.returns-in-Some-stopped-clause-provenance
returns-in-Some-stopped-clause-provenance g c =
    traced_then (λ q has. has) (λ q has. has) c.loop-part.invariant.provenance c.in_ok-stopped.ensures.provenance

pub returns-in_err-stopped-clause-modelled : goal.returns-in_err-stopped-clause-modelled
returns-in_err-stopped-clause-modelled g c modelled first w stands walked =
    let so_far = c.loop-part.invariant.modelled modelled first w stands walked in
    let error = err_from_is_err_and c.from_residual.result c.from_residual.ensures.1 in
    rw (error.1, error.2) (fails_then _ so_far (popped_parts _ c.in-Some.part c.in-Some.ensures.items)
    c.in_err-stopped.field-0.0
    (c.in_err-stopped.ensures.modelled modelled first w (parts_left c.pop.new.self.items) (nil_left c.pop.new.self.items
    ∙ sym (c.is_empty-is_last.ensures ∙ ap (λ l. length l == 0) c.as_slice.ensures.value))
    (c.loop-part.invariant.stands first stands) so_far.walked))

pub returns-in-Some-stopped-clause-modelled : goal.returns-in-Some-stopped-clause-modelled
returns-in-Some-stopped-clause-modelled g c modelled first w stands walked =
    let so_far = c.loop-part.invariant.modelled modelled first w stands walked in
    stops_then _ so_far (popped_parts _ c.in-Some.part c.in-Some.ensures.items)
    (way (g.H.Host.model c.step.new.host) c.step.new.stack.items (parts_left c.pop.new.self.items)) c.in-Some-stopped.stop
    (rw c.in-Some-stopped.is at (c.in_ok-stopped.ensures.modelled modelled first w (parts_left c.pop.new.self.items)
    (nil_left c.pop.new.self.items ∙ sym (c.is_empty-is_last.ensures
    ∙ ap (λ l. length l == 0) c.as_slice.ensures.value))
    (c.loop-part.invariant.stands first stands) so_far.walked))

pub loop-part-preserved : goal.loop-part-preserved
loop-part-preserved g c = record {
  later = omega (arith, c.in_ok-stopped.ensures.cause.later, c.loop-part.invariant.later);
  most = c.in_ok-stopped.ensures.cause.most ∙ c.loop-part.invariant.most;
  stands = λ first stands. c.in_ok-stopped.ensures.stands first (c.loop-part.invariant.stands first stands);
  provenance = traced_then (λ q has. has) (λ q has. has) c.loop-part.invariant.provenance c.in_ok-stopped.ensures.provenance;
  reads =
      let reads = rw c.in_default-stopped.is at c.in_ok-stopped.ensures.reads in
      record {
        calls =
            omega (
              arith,
              reads.calls,
              c.loop-part.invariant.reads.calls,
              ap length c.in-Some.ensures.items,
              length-append c.pop.new.self.items (c.in-Some.part ∷ []),
            );
        links = omega (arith, reads.links, c.loop-part.invariant.reads.links);
      };
  modelled = λ modelled first w stands walked.
      let so_far = c.loop-part.invariant.modelled modelled first w stands walked in
      goes_then _ so_far (popped_parts _ c.in-Some.part c.in-Some.ensures.items)
      (rw c.in_default-stopped.is at (c.in_ok-stopped.ensures.modelled modelled first w (parts_left c.pop.new.self.items)
      (nil_left c.pop.new.self.items ∙ sym (c.is_empty-is_last.ensures
      ∙ ap (λ l. length l == 0) c.as_slice.ensures.value))
      (c.loop-part.invariant.stands first stands) so_far.walked));
}

pub returns-clause-modelled : goal.returns-clause-modelled
returns-clause-modelled g c modelled first w stands walked =
    goes_dot c.loop-part.way.left.items c.pop.new.self.items (c.loop-part.invariant.modelled modelled first w stands walked)
    (omega (arith, c.loop-part.way.left.ok.0, c.in_default.ensures.cases.0))
    (omega (arith, c.pop.new.self.ok.0, c.in_default.ensures.cases.1))
