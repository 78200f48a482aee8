use Rattle.wasi_host.proofs.Tracing.{traced_same}
use Rattle.wasi_resolve.proofs.TwoPathOpLemmas.{old_refused, new_refused, both_placed, traced_old, traced_new, traced_both}
use Rattle.wasi_resolve.proofs.two_path_ops.open_both.Goals as goal

pub returns-in-Err-clause-provenance : goal.returns-in-Err-clause-provenance
returns-in-Err-clause-provenance g c = traced_old c.in-Err.ensures.provenance

pub returns-in-Err-clause-modelled : goal.returns-in-Err-clause-modelled
returns-in-Err-clause-modelled g c modelled =
    old_refused _ c.args.old_path.now _ c.args.new_path.now c.in-Err.e (c.in-Err.ensures.modelled modelled)

pub returns-in-Ok-open_parent-clause-provenance : goal.returns-in-Ok-open_parent-clause-provenance
returns-in-Ok-open_parent-clause-provenance g c =
    traced_both _ _ _ c.in-Ok.first.directory c.in-Ok-open_parent.second.directory c.in-Ok.ensures.live
    c.in-Ok-open_parent.ensures.live c.in-Ok.ensures.provenance c.in-Ok-open_parent.ensures.provenance

pub returns-in-Ok-open_parent-clause-modelled : goal.returns-in-Ok-open_parent-clause-modelled
returns-in-Ok-open_parent-clause-modelled g c modelled =
    both_placed _ c.args.old_path.now c.in-Ok.first (c.in-Ok.ensures.modelled modelled) c.args.new c.args.new_path.now
    c.requires.new c.args.old c.in-Ok.ensures.live c.in-Ok-open_parent.second c.in-Ok.ensures.held
    (c.in-Ok-open_parent.ensures.modelled modelled)

pub returns-in-Err-open_parent-clause-provenance : goal.returns-in-Err-open_parent-clause-provenance
returns-in-Err-open_parent-clause-provenance g c =
    traced_same _ c.release.ensures.logged
    (traced_new c.in-Ok.ensures.provenance c.in-Err-open_parent.ensures.provenance)

pub returns-in-Err-open_parent-clause-modelled : goal.returns-in-Err-open_parent-clause-modelled
returns-in-Err-open_parent-clause-modelled g c modelled =
    new_refused _ c.args.old_path.now c.in-Ok.first (c.in-Ok.ensures.modelled modelled) c.args.new c.args.new_path.now
    c.requires.new c.args.old c.in-Ok.ensures.live c.in-Err-open_parent.e (c.in-Err-open_parent.ensures.modelled modelled)
    (rw (c.in-Err-open_parent.ensures.live, c.in-Ok.ensures.closes) at (c.release.ensures.modelled modelled))
