use Rattle.std.proofs.Common.{Ok, Err}
use Rattle.wasi_host.specs.declared.errors.HostError.TheVariants.{Code}
use Rattle.wasi_resolve.proofs.EntryOpLemmas.{got_closed}
use Rattle.wasi_fs.proofs.Syncing.{not_synced, is_synced}
use Rattle.wasi_fs.proofs.syncs.sync_directory.Goals as goal

pub returns-in-Err-clause-modelled : goal.returns-in-Err-clause-modelled
returns-in-Err-clause-modelled g c = λ modelled.
    not_synced _ c.in-Err.error (rw c.read_options.ensures.options at (c.in-Err.ensures.modelled modelled))

pub returns-in-Ok-synced-clause-modelled : goal.returns-in-Ok-synced-clause-modelled
returns-in-Ok-synced-clause-modelled g c = λ modelled.
    is_synced _ c.in-Ok.handle (Ok tt) c.in-Ok.ensures.live.1 c.sync-synced.ensures.live
    (rw c.read_options.ensures.options at (c.in-Ok.ensures.modelled modelled)) (c.in-Ok-synced.ensures.modelled modelled)
    (got_closed c.in-Ok.handle c.in-Ok.ensures.live c.sync-synced.ensures.live c.close.ensures.live
    (c.close.ensures.modelled modelled))

pub returns-in-Err-synced-clause-modelled : goal.returns-in-Err-synced-clause-modelled
returns-in-Err-synced-clause-modelled g c = λ modelled.
    is_synced _ c.in-Ok.handle (Err (Code c.in-Err-synced.code)) c.in-Ok.ensures.live.1 c.sync-synced.ensures.live
    (rw c.read_options.ensures.options at (c.in-Ok.ensures.modelled modelled)) (c.in-Err-synced.ensures.modelled modelled)
    (got_closed c.in-Ok.handle c.in-Ok.ensures.live c.sync-synced.ensures.live c.close.ensures.live
    (c.close.ensures.modelled modelled))
