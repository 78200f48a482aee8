use Rattle.std.proofs.Common.{◌-◌, ◌+◌, ◌∙◌, Ok, Err, inl, inr, refl, arith}
use Rattle.std.proofs.lemmas.Result.{err_from_is_err_and}
use Rattle.wasi_host.proofs.Tracing.{traced_none, traced_then, traced_last, traced_less}
use Rattle.wasi_resolve.specs.Finding.{course_of}
use Rattle.wasi_resolve.specs.Left.{parts_left}
use Rattle.wasi_resolve.proofs.Causes.{cause_err, cause_ok}
use Rattle.wasi_resolve.proofs.Stacks.{top_live, stands_same}
use Rattle.wasi_resolve.proofs.Lookups.{traced_top, traced_stays}
use Rattle.wasi_resolve.proofs.Going.{on_top}
use Rattle.wasi_resolve.proofs.Reaching.{found_traced}
use Rattle.wasi_resolve.proofs.Passing.{ends_past, fails_past, fails_few, link_few, link_past, link_fails}
use Rattle.wasi_resolve.proofs.Coming.{so_starts, so_turns, so_ends, so_fails, so_fails_last, so_loops}
use Rattle.wasi_resolve.proofs.walk.along.Goals as goal

pub loop-links-init : goal.loop-links-init
loop-links-init g c = record {
  later = omega arith;
  most = refl;
  stands = λ first stands. stands;
  provenance = traced_none _ _ _ _ _ refl (λ q has. has);
  links_so_far = omega arith;
  modelled = λ modelled first w stands walked.
      so_starts (course_of c.args.aim.now c.args.has_slash) (parts_left c.args.way.now.left.items)
      (g.H.Host.lookups c.args.host.now) walked;
}

pub reach-requires : goal.reach-requires
reach-requires g c = (c.requires.0, c.loop-links.invariant.stands _ c.requires.1)

pub returns-in-Err-clause-modelled : goal.returns-in-Err-clause-modelled
returns-in-Err-clause-modelled g c modelled first w stands walked =
    let so = c.loop-links.invariant.modelled modelled first w stands walked in
    elim (c.in-Err.ensures.modelled modelled first w so.taken (c.loop-links.invariant.stands first stands) so.walked) [
      | inl fails ↦ so_fails (40 - (c.loop-links.links + 1)) c.in-Err.e so (omega arith)
          (fails_past c.loop-links.way.left.items c.reach.new.way.left.items c.in-Err.e fails c.in-Err.ensures.reads)
      | inr ends ↦ so_ends (Err c.in-Err.e) so
          (ends_past c.loop-links.way.left.items c.reach.new.way.left.items (Err c.in-Err.e) ends c.in-Err.ensures.reads)
    ]

pub returns-in-Err-clause-provenance : goal.returns-in-Err-clause-provenance
returns-in-Err-clause-provenance g c =
    traced_last (λ q has. has) c.loop-links.invariant.provenance c.in-Err.ensures.provenance

pub returns-in-Ok-Found-clause-modelled : goal.returns-in-Ok-Found-clause-modelled
returns-in-Ok-Found-clause-modelled g c modelled first w stands walked =
    let so = c.loop-links.invariant.modelled modelled first w stands walked in
    so_ends (Ok c.in-Ok-Found.found) so
    (ends_past c.loop-links.way.left.items c.reach.new.way.left.items (Ok c.in-Ok-Found.found)
    (rw c.in-Ok-Found.field-0-is at (c.in-Ok-Found.ensures.modelled modelled first w so.taken
    (c.loop-links.invariant.stands first stands) so.walked)) c.in-Ok-Found.ensures.reads)

pub returns-in-Ok-Found-clause-provenance : goal.returns-in-Ok-Found-clause-provenance
returns-in-Ok-Found-clause-provenance g c =
    traced_last (λ q has. has) c.loop-links.invariant.provenance (rw c.in-Ok-Found.field-0-is at c.in-Ok-Found.ensures.provenance)

pub read_link-requires : goal.read_link-requires
read_link-requires g c =
    rw c.top_of-here.ensures (top_live (rw c.in-Ok-Link.field-0-is at
    (c.in-Ok-Link.ensures.stands _ (c.loop-links.invariant.stands _ c.requires.1))))

pub returns-in_err-slash-in-Ok-Link-clause-provenance : goal.returns-in_err-slash-in-Ok-Link-clause-provenance
returns-in_err-slash-in-Ok-Link-clause-provenance g c =
    let residual = c.from_residual in
    let error = err_from_is_err_and residual.result residual.ensures.1 in
    rw error.1 (traced_last (λ q has. has) c.loop-links.invariant.provenance
    (found_traced c.args.start c.loop-links.way.stack.items c.reach.new.way.stack.items c.top_of-here.ensures
    (rw c.in-Ok-Link.field-0-is at c.in-Ok-Link.ensures.provenance) c.in_err-slash-in-Ok-Link.ensures.provenance))

pub returns-in_err-slash-in-Ok-Link-clause-modelled : goal.returns-in_err-slash-in-Ok-Link-clause-modelled
returns-in_err-slash-in-Ok-Link-clause-modelled g c modelled first w stands walked =
    let so = c.loop-links.invariant.modelled modelled first w stands walked in
    let now = c.loop-links.invariant.stands first stands in
    let link = rw c.in-Ok-Link.field-0-is at (c.in-Ok-Link.ensures.modelled modelled first w so.taken now so.walked) in
    let on = on_top (rw c.in-Ok-Link.field-0-is at (c.in-Ok-Link.ensures.stands first now)) link.walked c.top_of-here.ensures in
    let residual = c.from_residual in
    let error = err_from_is_err_and residual.result residual.ensures.1 in
    let e = c.in_err-slash-in-Ok-Link.field-0.0 in
    rw (error.1, error.2) (so_fails (40 - (c.loop-links.links + 1)) e so (omega arith)
    (link_fails c.loop-links.way.left.items c.reach.new.way.left.items on link c.in-Ok-Link.ensures.reads
    c.in_err-slash-in-Ok-Link.ensures.reads e (c.in_err-slash-in-Ok-Link.ensures.modelled modelled)))

pub loop-links-preserved : goal.loop-links-preserved
loop-links-preserved g c = record {
  later =
      omega (arith, c.in-Ok-Link.ensures.cause.later, c.in_ok-slash-in-Ok-Link.ensures.cause.later, c.loop-links.invariant.later);
  most = c.in_ok-slash-in-Ok-Link.ensures.cause.most ∙ c.in-Ok-Link.ensures.cause.most ∙ c.loop-links.invariant.most;
  stands = λ first stands.
      stands_same (rw c.in-Ok-Link.field-0-is at
      (c.in-Ok-Link.ensures.stands first (c.loop-links.invariant.stands first stands))) c.in_ok-slash-in-Ok-Link.ensures.live;
  provenance =
      traced_then (λ q has. has) (λ q has. has) c.loop-links.invariant.provenance
      (traced_then (λ q has. has) (λ q has. has) (rw c.in-Ok-Link.field-0-is at c.in-Ok-Link.ensures.provenance)
      (traced_top c.args.start c.reach.new.way.stack.items c.top_of-here.ensures
      (traced_stays c.args.start c.reach.new.way.stack.items c.in_ok-slash-in-Ok-Link.ensures.provenance)));
  links_so_far =
      omega (
        arith,
        c.loop-links.invariant.links_so_far,
        c.in-Ok-Link.ensures.reads.links,
        c.in_ok-slash-in-Ok-Link.ensures.reads.links,
      );
  modelled = λ modelled first w stands walked.
      let so = c.loop-links.invariant.modelled modelled first w stands walked in
      let now = c.loop-links.invariant.stands first stands in
      let link = rw c.in-Ok-Link.field-0-is at (c.in-Ok-Link.ensures.modelled modelled first w so.taken now so.walked) in
      let on = on_top (rw c.in-Ok-Link.field-0-is at (c.in-Ok-Link.ensures.stands first now)) link.walked c.top_of-here.ensures in
      so_turns (40 - (c.loop-links.links + 1)) so (omega arith)
      (link_past c.loop-links.way.left.items c.reach.new.way.left.items on link c.in-Ok-Link.ensures.reads
      c.in_ok-slash-in-Ok-Link.ensures.reads c.in_ok-slash-in-Ok-Link.slash (c.in_ok-slash-in-Ok-Link.ensures.modelled modelled));
}

pub reach-requires-2 : goal.reach-requires-2
reach-requires-2 g c = (c.requires.0, c.loop-links.invariant.stands _ c.requires.1)

pub returns-in-Err-reach-clause-modelled : goal.returns-in-Err-reach-clause-modelled
returns-in-Err-reach-clause-modelled g c modelled first w stands walked =
    let so = c.loop-links.invariant.modelled modelled first w stands walked in
    let given = c.in-Err-reach.ensures in
    elim (given.modelled modelled first w so.taken (c.loop-links.invariant.stands first stands) so.walked) [
      | inl fails ↦ so_fails_last c.in-Err-reach.e so (omega arith) fails
          (fails_few c.loop-links.way.left.items c.reach-2.new.way.left.items fails given.reads)
      | inr ends ↦ so_ends (Err c.in-Err-reach.e) so
          (ends_past c.loop-links.way.left.items c.reach-2.new.way.left.items (Err c.in-Err-reach.e) ends given.reads)
    ]

pub returns-in-Err-reach-clause-provenance : goal.returns-in-Err-reach-clause-provenance
returns-in-Err-reach-clause-provenance g c =
    traced_last (λ q has. has) c.loop-links.invariant.provenance c.in-Err-reach.ensures.provenance

pub returns-in-Ok-Found-reach-clause-modelled : goal.returns-in-Ok-Found-reach-clause-modelled
returns-in-Ok-Found-reach-clause-modelled g c modelled first w stands walked =
    let so = c.loop-links.invariant.modelled modelled first w stands walked in
    so_ends (Ok c.in-Ok-Found-reach.found) so
    (ends_past c.loop-links.way.left.items c.reach-2.new.way.left.items (Ok c.in-Ok-Found-reach.found)
    (rw c.in-Ok-Found-reach.field-0-is at (c.in-Ok-Found-reach.ensures.modelled modelled first w so.taken
    (c.loop-links.invariant.stands first stands) so.walked))
    c.in-Ok-Found-reach.ensures.reads)

pub returns-in-Ok-Found-reach-clause-provenance : goal.returns-in-Ok-Found-reach-clause-provenance
returns-in-Ok-Found-reach-clause-provenance g c =
    traced_last (λ q has. has) c.loop-links.invariant.provenance
    (rw c.in-Ok-Found-reach.field-0-is at c.in-Ok-Found-reach.ensures.provenance)

pub returns-in-Ok-Link-reach-clause-modelled : goal.returns-in-Ok-Link-reach-clause-modelled
returns-in-Ok-Link-reach-clause-modelled g c modelled first w stands walked =
    let so = c.loop-links.invariant.modelled modelled first w stands walked in
    let link =
    rw c.in-Ok-Link-reach.field-0-is at (c.in-Ok-Link-reach.ensures.modelled modelled first w so.taken
    (c.loop-links.invariant.stands first stands) so.walked) in
    so_loops so (omega arith) link
    (link_few c.loop-links.way.left.items c.reach-2.new.way.left.items link
    c.in-Ok-Link-reach.ensures.reads)

pub returns-in-Ok-Link-reach-clause-provenance : goal.returns-in-Ok-Link-reach-clause-provenance
returns-in-Ok-Link-reach-clause-provenance g c =
    traced_less (traced_then (λ q has. has) (λ q has. has) c.loop-links.invariant.provenance
    (rw c.in-Ok-Link-reach.field-0-is at c.in-Ok-Link-reach.ensures.provenance))

pub returns-in-Ok-Found-clause-cause : goal.returns-in-Ok-Found-clause-cause
returns-in-Ok-Found-clause-cause g c =
    cause_ok c.loop-links.invariant.later c.loop-links.invariant.most c.in-Ok-Found.ensures.cause

pub returns-in-Err-clause-cause : goal.returns-in-Err-clause-cause
returns-in-Err-clause-cause g c =
    cause_err c.loop-links.invariant.later c.loop-links.invariant.most c.in-Err.ensures.cause

pub returns-in-Ok-Found-reach-clause-cause : goal.returns-in-Ok-Found-reach-clause-cause
returns-in-Ok-Found-reach-clause-cause g c =
    cause_ok c.loop-links.invariant.later c.loop-links.invariant.most c.in-Ok-Found-reach.ensures.cause

pub returns-in-Err-reach-clause-cause : goal.returns-in-Err-reach-clause-cause
returns-in-Err-reach-clause-cause g c =
    cause_err c.loop-links.invariant.later c.loop-links.invariant.most c.in-Err-reach.ensures.cause

pub returns-in_err-slash-in-Ok-Link-clause-cause : goal.returns-in_err-slash-in-Ok-Link-clause-cause
returns-in_err-slash-in-Ok-Link-clause-cause g c =
    let residual = c.from_residual in
    let error = err_from_is_err_and residual.result residual.ensures.1 in
    let reached = c.in-Ok-Link.ensures.cause in
    rw (error.1, error.2) (cause_err (omega (arith, c.loop-links.invariant.later, reached.later))
    (reached.most ∙ c.loop-links.invariant.most) c.in_err-slash-in-Ok-Link.ensures.cause)

pub returns-in-Err-clause-stands : goal.returns-in-Err-clause-stands
returns-in-Err-clause-stands g c first stands =
    c.in-Err.ensures.stands first (c.loop-links.invariant.stands first stands)

pub returns-in-Err-reach-clause-stands : goal.returns-in-Err-reach-clause-stands
returns-in-Err-reach-clause-stands g c first stands =
    c.in-Err-reach.ensures.stands first (c.loop-links.invariant.stands first stands)

pub returns-in-Ok-Found-clause-stands : goal.returns-in-Ok-Found-clause-stands
returns-in-Ok-Found-clause-stands g c first stands =
    rw c.in-Ok-Found.field-0-is at (c.in-Ok-Found.ensures.stands first (c.loop-links.invariant.stands first stands))

pub returns-in-Ok-Found-reach-clause-stands : goal.returns-in-Ok-Found-reach-clause-stands
returns-in-Ok-Found-reach-clause-stands g c first stands =
    rw c.in-Ok-Found-reach.field-0-is at (c.in-Ok-Found-reach.ensures.stands first
    (c.loop-links.invariant.stands first stands))

pub returns-in-Ok-Link-reach-clause-stands : goal.returns-in-Ok-Link-reach-clause-stands
returns-in-Ok-Link-reach-clause-stands g c first stands =
    rw c.in-Ok-Link-reach.field-0-is at (c.in-Ok-Link-reach.ensures.stands first
    (c.loop-links.invariant.stands first stands))

pub returns-in_err-slash-in-Ok-Link-clause-stands : goal.returns-in_err-slash-in-Ok-Link-clause-stands
returns-in_err-slash-in-Ok-Link-clause-stands g c first stands =
    let residual = c.from_residual in
    let error = err_from_is_err_and residual.result residual.ensures.1 in
    rw error.1 (stands_same (rw c.in-Ok-Link.field-0-is at
    (c.in-Ok-Link.ensures.stands first (c.loop-links.invariant.stands first stands)))
    c.in_err-slash-in-Ok-Link.ensures.live)
