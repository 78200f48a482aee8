use Rattle.wasi_resolve.proofs.EntryOpLemmas.{closed_stays}
use Rattle.wasi_resolve.proofs.parent.MaybeOwned.release.Goals as goal

pub returns-in-Owned-clause-modelled : goal.returns-in-Owned-clause-modelled
returns-in-Owned-clause-modelled g c modelled =
    rw c.in-Owned.is (closed_stays c.in-Owned.handle c.close.ensures.live (c.close.ensures.modelled modelled))
