use Rattle.std.proofs.Common.{sym, ◌∙◌}
use Rattle.wasi_host.proofs.Tracing.{traced_twice}
use Rattle.wasi_resolve.proofs.Timing.{timed_ok, timed_err, read_ok, read_err, timed_by_read}
use Rattle.wasi_resolve.proofs.times.open_to_set.Goals as goal

pub returns-in-Ok-clause-modelled : goal.returns-in-Ok-clause-modelled
returns-in-Ok-clause-modelled g c modelled =
    timed_ok _ c.args.path.now c.in-Ok.handle (rw c.writing.ensures at (c.in-Ok.ensures.modelled modelled))

pub returns-then-not-reads_after-clause-modelled : goal.returns-then-not-reads_after-clause-modelled
returns-then-not-reads_after-clause-modelled g c modelled =
    timed_err _ c.args.path.now c.in-Err.refused (sym c.reads_after.ensures ∙ c.if-not-reads_after.true)
    (rw c.writing.ensures at (c.in-Err.ensures.modelled modelled))

pub returns-in-Ok-open-clause-provenance : goal.returns-in-Ok-open-clause-provenance
returns-in-Ok-open-clause-provenance g c = traced_twice c.in-Err.ensures.provenance c.in-Ok-open.ensures.provenance

pub returns-in-Err-open-clause-provenance : goal.returns-in-Err-open-clause-provenance
returns-in-Err-open-clause-provenance g c = traced_twice c.in-Err.ensures.provenance c.in-Err-open.ensures.provenance

pub returns-in-Ok-open-clause-modelled : goal.returns-in-Ok-open-clause-modelled
returns-in-Ok-open-clause-modelled g c modelled =
    timed_by_read c.args.start c.args.path.now c.in-Err.refused c.requires.live
    (sym c.reads_after.ensures ∙ c.if-not-reads_after.false) (rw c.writing.ensures at (c.in-Err.ensures.modelled modelled))
    (read_ok _ c.args.path.now c.in-Ok-open.handle
    (rw (c.in-Err.ensures.live, c.read_options.ensures.options) at (c.in-Ok-open.ensures.modelled modelled)))

pub returns-in-Err-open-clause-modelled : goal.returns-in-Err-open-clause-modelled
returns-in-Err-open-clause-modelled g c modelled =
    rw c.read_refused.ensures
    (timed_by_read c.args.start c.args.path.now c.in-Err.refused c.requires.live
    (sym c.reads_after.ensures ∙ c.if-not-reads_after.false) (rw c.writing.ensures at (c.in-Err.ensures.modelled modelled))
    (read_err _ c.args.path.now c.in-Err-open.failed
    (rw (c.in-Err.ensures.live, c.read_options.ensures.options) at (c.in-Err-open.ensures.modelled modelled))))
