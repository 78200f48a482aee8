use Rattle.wasi_resolve.specs.EntryOps.{ReadLink}
use Rattle.wasi_resolve.proofs.EntryOpLemmas.{done_at_place, traced_at_place}
use Rattle.wasi_resolve.proofs.entry_ops.read_link.Goals as goal

pub returns-clause-provenance : goal.returns-clause-provenance
returns-clause-provenance g c =
    traced_at_place c.in-Ok.place _ _ c.in-Ok.ensures.live c.in-Ok.ensures.provenance
    (rw c.handle.ensures.handle at c.unrooted_link_at-text.ensures.provenance) c.release.ensures.logged

pub returns-clause-modelled : goal.returns-clause-modelled
returns-clause-modelled g c modelled =
    done_at_place _ c.args.path.now ReadLink c.in-Ok.place c.in-Ok.ensures.closes (c.in-Ok.ensures.modelled modelled)
    (rw c.handle.ensures.handle at (c.unrooted_link_at-text.ensures.modelled modelled))
    (rw c.unrooted_link_at-text.ensures.live at (c.release.ensures.modelled modelled))
