use Rattle.std.proofs.Common.{arith, refl}
use Rattle.wasi_host.proofs.Tracing.{traced_two}
use Rattle.wasi_host.specs.declared.lookup.LookKind.TheVariants.{Rename as Renamed}
use Rattle.wasi_resolve.specs.TwoPathOps.{Rename, asks_directory}
use Rattle.wasi_resolve.proofs.TwoPathOpLemmas.{both_done, done_at_two, traced_at_two, two_reads}
use Rattle.wasi_resolve.proofs.two_path_ops.rename.Goals as goal

pub returns-clause-provenance : goal.returns-clause-provenance
returns-clause-provenance g c =
    traced_at_two c.in-Ok.ensures.provenance (rw (c.handle.ensures.handle, c.handle-2.ensures.handle) at
    (traced_two Renamed c.handle.result c.handle-2.result c.rename_at-moved.result c.rename_at-moved.ensures.logged))
    c.release_both.ensures.logged

pub returns-clause-links : goal.returns-clause-links
returns-clause-links g c =
    let reads = two_reads Renamed _ _ c.rename_at-moved.result refl c.rename_at-moved.ensures.logged c.release_both.ensures.logged in
    omega (arith, c.in-Ok.ensures.links, reads.links)

pub returns-clause-modelled : goal.returns-clause-modelled
returns-clause-modelled g c modelled =
    let asks = asks_directory c.args.old_path.now c.args.new_path.now in
    done_at_two _ _ _ _ c.in-Ok.both
    (rw (c.strip_dir_suffix.ensures.text, c.strip_dir_suffix-2.ensures.text) at (c.in-Ok.ensures.modelled modelled)) Rename asks
    c.in-Ok.ensures.closes
    (both_done Rename asks _ c.rename_at-moved.result c.rename_at-moved.ensures.live
    (rw (c.handle.ensures.handle, c.handle-2.ensures.handle, c.asks_directory-requires_dir.ensures) at
    (c.rename_at-moved.ensures.modelled modelled)))
    (rw c.rename_at-moved.ensures.live at (c.release_both.ensures.modelled modelled))

pub returns-clause-bound : goal.returns-clause-bound
returns-clause-bound g c modelled =
    let reads = two_reads Renamed _ _ c.rename_at-moved.result refl c.rename_at-moved.ensures.logged c.release_both.ensures.logged in
    let few = rw (c.strip_dir_suffix.ensures.text, c.strip_dir_suffix-2.ensures.text) at (c.in-Ok.ensures.bound modelled) in
    omega (arith, few, reads.calls)
