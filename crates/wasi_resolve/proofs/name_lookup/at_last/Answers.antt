use Rattle.std.proofs.Common.{◌∙◌, Some, None, Ok, Err, inr, refl, sym}
use Rattle.std.proofs.lemmas.Result.{err_from_is_err_and}
use Rattle.wasi_resolve.proofs.Ending.{last_opened, last_unseen, last_link, last_not_directory, last_seen}
use Rattle.wasi_host.specs.HostLaws.{one_looked}
use Rattle.wasi_host.specs.declared.lookup.LookKind.TheVariants.{Stat}
use Rattle.wasi_resolve.proofs.Counting.{few_more, few_err, few_piece}
use Rattle.wasi_host.specs.declared.metadata.Metadata.{Metadata}
use Rattle.wasi_host.proofs.Tracing.{traced_call}
use Rattle.wasi_resolve.proofs.name_lookup.at_last.Goals as goal

pub returns-in-Ok-Some-clause-modelled : goal.returns-in-Ok-Some-clause-modelled
returns-in-Ok-Some-clause-modelled g c modelled =
    rw c.in-Open.is (last_opened _ _ _ _ c.args.name c.in-Open.options _ c.args.slash (Ok (Some c.in-Ok-Some.handle))
    (rw (
      c.in-Ok-Some.field-0-is,
      c.name.ensures.bytes,
      c.last_options-last.ensures,
      c.reads_links-may_read.ensures,
      c.is_follow.ensures.value,
    ) at (c.in-Ok-Some.ensures.modelled modelled)))

pub returns-in-Ok-None-clause-modelled : goal.returns-in-Ok-None-clause-modelled
returns-in-Ok-None-clause-modelled g c modelled =
    rw c.in-Open.is (last_opened _ _ _ _ c.args.name c.in-Open.options _ c.args.slash (Ok None)
    (rw (
      c.in-Ok-None.field-0-is,
      c.name.ensures.bytes,
      c.last_options-last.ensures,
      c.reads_links-may_read.ensures,
      c.is_follow.ensures.value,
    ) at (c.in-Ok-None.ensures.modelled modelled)))

pub returns-in-Err-clause-modelled : goal.returns-in-Err-clause-modelled
returns-in-Err-clause-modelled g c modelled =
    rw c.in-Open.is (last_opened _ _ _ _ c.args.name c.in-Open.options _ c.args.slash (Err c.in-Err.e)
    (rw (c.name.ensures.bytes, c.last_options-last.ensures, c.reads_links-may_read.ensures, c.is_follow.ensures.value)
    at (c.in-Err.ensures.modelled modelled)))

pub returns-in_err-metadata-in-Look-clause-modelled : goal.returns-in_err-metadata-in-Look-clause-modelled
returns-in_err-metadata-in-Look-clause-modelled g c modelled =
    let error = err_from_is_err_and c.from_residual.result c.from_residual.ensures.1 in
    rw (error.1, error.2, c.in-Look.is)
    (last_unseen _ c.args.slash c.args.name.plain c.in_err-metadata-in-Look.ensures.live
    c.in_err-metadata-in-Look.field-0.0
    (rw c.name-in-Look.ensures.bytes at (c.in_err-metadata-in-Look.ensures.modelled modelled)))

pub returns-then-is_read-clause-modelled : goal.returns-then-is_read-clause-modelled
returns-then-is_read-clause-modelled g c modelled =
    rw c.in-Look.is (last_link _ c.args.slash c.args.name.plain c.in_ok-metadata-in-Look.ensures.live
    (rw c.name-in-Look.ensures.bytes at (c.in_ok-metadata-in-Look.ensures.modelled modelled)) _ refl
    (rw c.reads_links.ensures at (sym c.is_read.ensures ∙ c.if-is_read.true)))

pub returns-then-is_no_directory-clause-modelled : goal.returns-then-is_no_directory-clause-modelled
returns-then-is_no_directory-clause-modelled g c modelled =
    rw c.in-Look.is (inr (last_not_directory _ c.args.slash c.args.name.plain c.in_ok-metadata-in-Look.ensures.live
    (rw c.name-in-Look.ensures.bytes at (c.in_ok-metadata-in-Look.ensures.modelled modelled))
    (rw c.reads_links.ensures at (sym c.is_read.ensures ∙ c.if-is_read.false))
    (sym c.is_no_directory.ensures ∙ c.if-is_no_directory.true)))

pub returns-else-is_no_directory-clause-modelled : goal.returns-else-is_no_directory-clause-modelled
returns-else-is_no_directory-clause-modelled g c modelled =
    rw c.in-Look.is (last_seen _ c.args.slash c.args.name.plain c.in_ok-metadata-in-Look.ensures.live
    (rw c.name-in-Look.ensures.bytes at (c.in_ok-metadata-in-Look.ensures.modelled modelled))
    (rw c.reads_links.ensures at (sym c.is_read.ensures ∙ c.if-is_read.false))
    (sym c.is_no_directory.ensures ∙ c.if-is_no_directory.false))

pub returns-in_err-metadata-in-Look-clause-reads : goal.returns-in_err-metadata-in-Look-clause-reads
returns-in_err-metadata-in-Look-clause-reads g c =
    few_more 1 (few_err (one_looked Stat c.args.here) c.in_err-metadata-in-Look.field-0.0
    c.in_err-metadata-in-Look.ensures.logged)

pub returns-then-is_read-clause-reads : goal.returns-then-is_read-clause-reads
returns-then-is_read-clause-reads g c =
    few_more 1 (few_piece (one_looked Stat c.args.here) c.in_ok-metadata-in-Look.ensures.logged)

pub returns-then-is_no_directory-clause-reads : goal.returns-then-is_no_directory-clause-reads
returns-then-is_no_directory-clause-reads g c =
    few_more 1 (few_piece (one_looked Stat c.args.here) c.in_ok-metadata-in-Look.ensures.logged)

pub returns-else-is_no_directory-clause-reads : goal.returns-else-is_no_directory-clause-reads
returns-else-is_no_directory-clause-reads g c =
    few_more 1 (few_piece (one_looked Stat c.args.here) c.in_ok-metadata-in-Look.ensures.logged)

pub returns-in_err-metadata-in-Look-clause-provenance : goal.returns-in_err-metadata-in-Look-clause-provenance
returns-in_err-metadata-in-Look-clause-provenance g c =
    let error = err_from_is_err_and c.from_residual.result c.from_residual.ensures.1 in
    rw error.1 (traced_call {A = Metadata} Stat c.args.here (Err c.in_err-metadata-in-Look.field-0.0)
    c.in_err-metadata-in-Look.ensures.logged)
