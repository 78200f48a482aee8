use Rattle.std.proofs.Common.{Ok, Err, inr}
use Rattle.std.proofs.lemmas.Result.{err_from_is_err_and}
use Rattle.wasi_resolve.proofs.Stacks.{top_live}
use Rattle.wasi_resolve.proofs.Going.{on_top}
use Rattle.wasi_resolve.proofs.Reaching.{reach_fails, reach_link, reach_dot, reach_last, stands_with, found_traced, reach_traced, few_last}
use Rattle.wasi_resolve.specs.Finding.{course_of, handle_found, handle_reached}
use Rattle.wasi_resolve.proofs.walk.reach.Goals as goal

pub returns-in_err-stop-clause-modelled : goal.returns-in_err-stop-clause-modelled
returns-in_err-stop-clause-modelled g c modelled first w m stands walked =
    let error = err_from_is_err_and c.from_residual.result c.from_residual.ensures.1 in
    rw (error.1, error.2) (reach_fails c.in_err-stop.field-0.0 (course_of c.args.aim.now c.args.slash) m
    (c.in_err-stop.ensures.modelled modelled first w stands walked))

pub at_dot-requires : goal.at_dot-requires
at_dot-requires g c = rw c.top_of-here.ensures (top_live (c.leg.ensures.stands _ c.requires.1))

pub at_last-requires : goal.at_last-requires
at_last-requires g c = rw c.top_of-here.ensures (top_live (c.leg.ensures.stands _ c.requires.1))

pub returns-in-Ok-clause-stands : goal.returns-in-Ok-clause-stands
returns-in-Ok-clause-stands g c first stands =
    stands_with _ (handle_found (Ok c.in-Ok.found)) (c.leg.ensures.stands first stands) c.in-Ok.ensures.live

pub returns-in-Last-clause-stands : goal.returns-in-Last-clause-stands
returns-in-Last-clause-stands g c first stands =
    stands_with (g.H.Host.live c.at_last.new.host) (handle_reached c.at_last.result)
    (c.leg.ensures.stands first stands) c.at_last.ensures.live

pub returns-in-Ok-clause-provenance : goal.returns-in-Ok-clause-provenance
returns-in-Ok-clause-provenance g c =
    found_traced c.args.start c.args.way.now.stack.items _ c.top_of-here.ensures c.leg.ensures.provenance
    c.in-Ok.ensures.provenance

pub returns-in-Err-clause-provenance : goal.returns-in-Err-clause-provenance
returns-in-Err-clause-provenance g c =
    found_traced c.args.start c.args.way.now.stack.items _ c.top_of-here.ensures c.leg.ensures.provenance
    c.in-Err.ensures.provenance

pub returns-in-Last-clause-provenance : goal.returns-in-Last-clause-provenance
returns-in-Last-clause-provenance g c =
    reach_traced c.args.start c.args.way.now.stack.items _ c.top_of-here.ensures c.leg.ensures.provenance c.at_last.result
    c.at_last.ensures.provenance

pub returns-in-Last-clause-reads : goal.returns-in-Last-clause-reads
returns-in-Last-clause-reads g c =
    few_last (rw c.in-Last.is at c.in_ok-stop.ensures.reads) c.at_last.ensures.reads

pub returns-in-Ok-clause-modelled : goal.returns-in-Ok-clause-modelled
returns-in-Ok-clause-modelled g c modelled first w m stands walked =
    let stopped = rw c.in-Dot.is at (c.in_ok-stop.ensures.modelled modelled first w stands walked) in
    let on = on_top (c.leg.ensures.stands first stands) stopped.0.walked c.top_of-here.ensures in
    reach_dot on (course_of c.args.aim.now c.args.slash) m (Ok c.in-Ok.found) stopped.0 stopped.1 (c.in-Ok.ensures.modelled modelled)

pub returns-in-Err-clause-modelled : goal.returns-in-Err-clause-modelled
returns-in-Err-clause-modelled g c modelled first w m stands walked =
    let stopped = rw c.in-Dot.is at (c.in_ok-stop.ensures.modelled modelled first w stands walked) in
    let on = on_top (c.leg.ensures.stands first stands) stopped.0.walked c.top_of-here.ensures in
    inr (reach_dot on (course_of c.args.aim.now c.args.slash) m (Err c.in-Err.e) stopped.0 stopped.1
    (c.in-Err.ensures.modelled modelled))

pub returns-in-Last-clause-modelled : goal.returns-in-Last-clause-modelled
returns-in-Last-clause-modelled g c modelled first w m stands walked =
    let last = rw c.in-Last.is at (c.in_ok-stop.ensures.modelled modelled first w stands walked) in
    let on = on_top (c.leg.ensures.stands first stands) last.walked c.top_of-here.ensures in
    reach_last on (course_of c.args.aim.now c.args.slash) m last (g.H.Host.model c.at_last.new.host) c.at_last.result
    (c.at_last.ensures.modelled modelled)

pub returns-in-Link-clause-modelled : goal.returns-in-Link-clause-modelled
returns-in-Link-clause-modelled g c modelled first w m stands walked =
    reach_link _ (course_of c.args.aim.now c.args.slash) m (rw c.in-Link.is at (c.in_ok-stop.ensures.modelled modelled first w stands walked))
