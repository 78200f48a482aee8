use Rattle.wasi_resolve.specs.Change.{change_call}
use Rattle.wasi_resolve.proofs.EntryOpLemmas.{not_placed, done_at_place, traced_at_place}
use Rattle.wasi_resolve.proofs.entry_ops.change_at.Goals as goal

pub returns-in-Err-clause-modelled : goal.returns-in-Err-clause-modelled
returns-in-Err-clause-modelled g c modelled =
    not_placed _ c.args.path.now (change_call c.args.change.now) c.in-Err.e (c.in-Err.ensures.modelled modelled)

pub returns-clause-provenance : goal.returns-clause-provenance
returns-clause-provenance g c =
    traced_at_place c.in-Ok.place _ _ c.in-Ok.ensures.live c.in-Ok.ensures.provenance
    (rw c.handle.ensures.handle at c.change_in-done.ensures.provenance) c.release.ensures.logged

pub returns-clause-modelled : goal.returns-clause-modelled
returns-clause-modelled g c modelled =
    done_at_place _ c.args.path.now (change_call c.args.change.now) c.in-Ok.place c.in-Ok.ensures.closes
    (c.in-Ok.ensures.modelled modelled) (rw c.handle.ensures.handle at (c.change_in-done.ensures.modelled modelled))
    (rw c.change_in-done.ensures.live at (c.release.ensures.modelled modelled))
