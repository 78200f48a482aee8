use Rattle.std.proofs.Common.{◌∙◌, refl, sym}
use Rattle.std.proofs.lemmas.Result.{err_from_is_err_and}
use Rattle.wasi_resolve.proofs.Ending.{dot_opened, dot_refused, dot_denied, dot_seen, dot_fault}
use Rattle.wasi_host.specs.declared.lookup.LookKind.TheVariants.{Open}
use Rattle.wasi_resolve.proofs.Counting.{few_got_err, few_piece}
use Rattle.wasi_host.proofs.Tracing.{traced_got_err}
use Rattle.wasi_resolve.proofs.Lookups.{last_is}
use Rattle.wasi_resolve.proofs.walk.at_dot.Goals as goal

pub returns-in_ok-handle-in-Open-clause-modelled : goal.returns-in_ok-handle-in-Open-clause-modelled
returns-in_ok-handle-in-Open-clause-modelled g c modelled =
    rw c.in-Open.is (dot_opened (sym c.is_write.ensures.value ∙ c.if-is_write.false)
    c.in_ok-handle-in-Open.ensures.live.1
    (rw c.dot.ensures.bytes at (c.in_ok-handle-in-Open.ensures.modelled modelled)))

pub returns-in_err-handle-in-Open-clause-modelled : goal.returns-in_err-handle-in-Open-clause-modelled
returns-in_err-handle-in-Open-clause-modelled g c modelled =
    let error = err_from_is_err_and c.from_residual.result c.from_residual.ensures.1 in
    rw (error.1, error.2, c.in-Open.is) (dot_refused (sym c.is_write.ensures.value ∙ c.if-is_write.false)
    c.in_err-handle-in-Open.field-0.0 c.in_err-handle-in-Open.ensures.live
    (rw c.dot.ensures.bytes at (c.in_err-handle-in-Open.ensures.modelled modelled)))

pub returns-in_err-access-in-Look-clause-modelled : goal.returns-in_err-access-in-Look-clause-modelled
returns-in_err-access-in-Look-clause-modelled g c modelled =
    let residual = c.from_residual-in_err-access-in-Look in
    let error = err_from_is_err_and residual.result residual.ensures.1 in
    rw (error.1, error.2, c.in-Look.is)
    (dot_denied c.in_err-access-in-Look.ensures.live c.in_err-access-in-Look.field-0.0
    (c.in_err-access-in-Look.ensures.modelled modelled))

pub returns-in_ok-metadata-in-Look-clause-modelled : goal.returns-in_ok-metadata-in-Look-clause-modelled
returns-in_ok-metadata-in-Look-clause-modelled g c modelled =
    rw c.in-Look.is (dot_seen c.access.ensures.live c.args.here refl c.requires c.in_ok-metadata-in-Look.ensures.live
    (c.in_ok-access-in-Look.ensures.modelled modelled) (c.in_ok-metadata-in-Look.ensures.modelled modelled))

pub returns-in_err-metadata-in-Look-clause-modelled : goal.returns-in_err-metadata-in-Look-clause-modelled
returns-in_err-metadata-in-Look-clause-modelled g c modelled =
    let residual = c.from_residual-in_err-metadata-in-Look in
    let error = err_from_is_err_and residual.result residual.ensures.1 in
    rw (error.1, error.2, c.in-Look.is) (dot_fault c.access.ensures.live c.args.here refl c.requires
    c.in_err-metadata-in-Look.ensures.live (c.in_ok-access-in-Look.ensures.modelled modelled)
    c.in_err-metadata-in-Look.field-0.0 (c.in_err-metadata-in-Look.ensures.modelled modelled))

pub returns-in_err-handle-in-Open-clause-reads : goal.returns-in_err-handle-in-Open-clause-reads
returns-in_err-handle-in-Open-clause-reads g c =
    few_got_err _ Open c.args.here c.in_err-handle-in-Open.field-0.0 c.in_err-handle-in-Open.ensures.logged

pub returns-in_ok-handle-in-Open-clause-reads : goal.returns-in_ok-handle-in-Open-clause-reads
returns-in_ok-handle-in-Open-clause-reads g c = few_piece _ c.in_ok-handle-in-Open.ensures.logged

pub returns-in_err-handle-in-Open-clause-provenance : goal.returns-in_err-handle-in-Open-clause-provenance
returns-in_err-handle-in-Open-clause-provenance g c =
    let error = err_from_is_err_and c.from_residual.result c.from_residual.ensures.1 in
    rw error.1 (traced_got_err _ _ _ Open c.args.here c.in_err-handle-in-Open.field-0.0
    c.in_err-handle-in-Open.ensures.logged)

pub returns-in_ok-handle-in-Open-clause-last : goal.returns-in_ok-handle-in-Open-clause-last
returns-in_ok-handle-in-Open-clause-last g c =
    last_is _ _ _ _ c.in_ok-handle-in-Open.handle c.in_ok-handle-in-Open.ensures.logged
