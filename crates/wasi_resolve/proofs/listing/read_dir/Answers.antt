use Rattle.std.proofs.Common.{inr}
use Rattle.wasi_host.proofs.Tracing.{traced_same, traced_call, traced_got, traced_kept, traced_last}
use Rattle.wasi_host.specs.Provenance.{Only}
use Rattle.wasi_host.specs.declared.lookup.LookKind.TheVariants.{Open, List as Listed}
use Rattle.wasi_resolve.proofs.EntryOpLemmas.{got_closed}
use Rattle.wasi_resolve.proofs.Listings.{not_opened, is_listed}
use Rattle.wasi_resolve.proofs.listing.read_dir.Goals as goal

pub returns-in-Err-clause-modelled : goal.returns-in-Err-clause-modelled
returns-in-Err-clause-modelled g c modelled =
    not_opened _ c.in-Err.e c.in-Err.ensures.live
    (rw (c.dot.ensures.bytes, c.listing_options.ensures) at (c.in-Err.ensures.modelled modelled))

pub returns-clause-provenance : goal.returns-clause-provenance
returns-clause-provenance g c =
    traced_same _ c.close.ensures.logged
    (traced_last (λ q is. is)
    (traced_kept (Only c.args.directory) (Only c.in-Ok.listed) (λ q is. inr is)
    (traced_got _ _ Open c.args.directory c.in-Ok.listed c.in-Ok.ensures.logged))
    (traced_call Listed c.in-Ok.listed c.list-entries.result c.list-entries.ensures.logged))

pub returns-clause-modelled : goal.returns-clause-modelled
returns-clause-modelled g c modelled =
    is_listed c.in-Ok.listed c.in-Ok.ensures.live.1
    (rw (c.dot.ensures.bytes, c.listing_options.ensures) at (c.in-Ok.ensures.modelled modelled)) c.list-entries.result
    c.list-entries.ensures.live (c.list-entries.ensures.modelled modelled)
    (got_closed c.in-Ok.listed c.in-Ok.ensures.live c.list-entries.ensures.live c.close.ensures.live
    (c.close.ensures.modelled modelled))
