use Rattle.std.proofs.Common.{Ok, Err}
use Rattle.wasi_host.specs.declared.errors.HostError.TheVariants.{Code}
use Rattle.wasi_resolve.proofs.EntryOpLemmas.{got_closed}
use Rattle.wasi_resolve.proofs.Timing.{not_timed, is_timed}
use Rattle.wasi_resolve.proofs.times.set_times.Goals as goal

pub returns-in-Err-clause-modelled : goal.returns-in-Err-clause-modelled
returns-in-Err-clause-modelled g c modelled =
    not_timed _ c.args.path.now c.args.atime c.args.mtime c.in-Err.e (c.in-Err.ensures.modelled modelled)

pub returns-in-Ok-set-clause-modelled : goal.returns-in-Ok-set-clause-modelled
returns-in-Ok-set-clause-modelled g c modelled =
    is_timed _ c.args.path.now c.args.atime c.args.mtime c.in-Ok.handle (Ok tt) c.in-Ok.ensures.live.1
    c.set_times-set.ensures.live (c.in-Ok.ensures.modelled modelled) (c.in-Ok-set.ensures.modelled modelled)
    (got_closed c.in-Ok.handle c.in-Ok.ensures.live c.set_times-set.ensures.live c.close.ensures.live
    (c.close.ensures.modelled modelled))

pub returns-in-Err-set-clause-modelled : goal.returns-in-Err-set-clause-modelled
returns-in-Err-set-clause-modelled g c modelled =
    is_timed _ c.args.path.now c.args.atime c.args.mtime c.in-Ok.handle (Err (Code c.in-Err-set.code))
    c.in-Ok.ensures.live.1 c.set_times-set.ensures.live (c.in-Ok.ensures.modelled modelled) (c.in-Err-set.ensures.modelled modelled)
    (got_closed c.in-Ok.handle c.in-Ok.ensures.live c.set_times-set.ensures.live c.close.ensures.live
    (c.close.ensures.modelled modelled))
