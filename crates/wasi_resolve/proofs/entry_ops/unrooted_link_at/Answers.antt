use Rattle.std.proofs.Common.{sym, ◌∙◌, ap}
use Rattle.std.proofs.lemmas.Result.{err_from_is_err_and}
use Rattle.wasi_paths.specs.Parts.{has_root}
use Rattle.wasi_resolve.proofs.EntryOpLemmas.{unread, text_refused, text_given}
use Rattle.wasi_host.specs.HostLaws.{one_looked}
use Rattle.wasi_host.specs.declared.lookup.LookKind.TheVariants.{ReadLink}
use Rattle.wasi_resolve.proofs.Counting.{few_err, few_piece}
use Rattle.wasi_resolve.proofs.entry_ops.unrooted_link_at.Goals as goal

pub returns-in_err-text-clause-modelled : goal.returns-in_err-text-clause-modelled
returns-in_err-text-clause-modelled g c modelled =
    let error = err_from_is_err_and c.from_residual.result c.from_residual.ensures.1 in
    rw (error.1, error.2)
    (unread _ c.in_err-text.ensures.live c.in_err-text.field-0.0 (c.in_err-text.ensures.modelled modelled))

pub returns-then-has_root-clause-modelled : goal.returns-then-has_root-clause-modelled
returns-then-has_root-clause-modelled g c modelled =
    text_refused _ c.in_ok-text.ensures.live (c.in_ok-text.ensures.modelled modelled)
    (ap has_root (sym c.as_str.ensures.value) ∙ sym c.has_root.ensures.test ∙ c.if-has_root.true)

pub returns-clause-modelled : goal.returns-clause-modelled
returns-clause-modelled g c modelled =
    text_given _ c.in_ok-text.ensures.live (c.in_ok-text.ensures.modelled modelled)
    (ap has_root (sym c.as_str.ensures.value) ∙ sym c.has_root.ensures.test ∙ c.if-has_root.false)

pub returns-in_err-text-clause-reads : goal.returns-in_err-text-clause-reads
returns-in_err-text-clause-reads g c =
    few_err (one_looked ReadLink c.args.directory) c.in_err-text.field-0.0 c.in_err-text.ensures.logged

pub returns-then-has_root-clause-reads : goal.returns-then-has_root-clause-reads
returns-then-has_root-clause-reads g c = few_piece (one_looked ReadLink c.args.directory) c.in_ok-text.ensures.logged

pub returns-clause-reads : goal.returns-clause-reads
returns-clause-reads g c = few_piece (one_looked ReadLink c.args.directory) c.in_ok-text.ensures.logged
