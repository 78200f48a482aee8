use Rattle.std.proofs.Common.{arith, refl, false}
use Rattle.wasi_host.proofs.Tracing.{traced_two}
use Rattle.wasi_host.specs.declared.lookup.LookKind.TheVariants.{Link}
use Rattle.wasi_resolve.specs.TwoPathOps.{HardLink}
use Rattle.wasi_resolve.proofs.TwoPathOpLemmas.{both_done, done_at_two, traced_at_two, two_reads}
use Rattle.wasi_resolve.proofs.two_path_ops.hard_link.Goals as goal

pub returns-clause-provenance : goal.returns-clause-provenance
returns-clause-provenance g c =
    traced_at_two c.in-Ok.ensures.provenance (rw (c.handle.ensures.handle, c.handle-2.ensures.handle) at
    (traced_two Link c.handle.result c.handle-2.result c.link_at-linked.result c.link_at-linked.ensures.logged))
    c.release_both.ensures.logged

pub returns-clause-links : goal.returns-clause-links
returns-clause-links g c =
    let reads = two_reads Link _ _ c.link_at-linked.result refl c.link_at-linked.ensures.logged c.release_both.ensures.logged in
    omega (arith, c.in-Ok.ensures.links, reads.links)

pub returns-clause-modelled : goal.returns-clause-modelled
returns-clause-modelled g c modelled =
    done_at_two _ c.args.old_path.now _ c.args.new_path.now c.in-Ok.both (c.in-Ok.ensures.modelled modelled) HardLink false
    c.in-Ok.ensures.closes
    (both_done HardLink false _ c.link_at-linked.result c.link_at-linked.ensures.live
    (rw (c.handle.ensures.handle, c.handle-2.ensures.handle) at (c.link_at-linked.ensures.modelled modelled)))
    (rw c.link_at-linked.ensures.live at (c.release_both.ensures.modelled modelled))

pub returns-clause-bound : goal.returns-clause-bound
returns-clause-bound g c modelled =
    let reads = two_reads Link _ _ c.link_at-linked.result refl c.link_at-linked.ensures.logged c.release_both.ensures.logged in
    omega (arith, c.in-Ok.ensures.bound modelled, reads.calls)
