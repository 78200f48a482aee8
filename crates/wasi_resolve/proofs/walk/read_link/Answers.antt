use Rattle.std.proofs.Common.{◌∙◌, ap, length, refl}
use Rattle.std.specs.Prelude.{◌==◌}
use Rattle.std.proofs.lemmas.Result.{err_from_is_err_and}
use Rattle.wasi_resolve.proofs.Passing.{read_fails, reads_now, reads_wants}
use Rattle.wasi_host.specs.HostLaws.{one_looked}
use Rattle.wasi_host.specs.declared.lookup.LookKind.TheVariants.{ReadLink}
use Rattle.wasi_resolve.proofs.Counting.{few_err, few_piece}
use Rattle.wasi_resolve.proofs.walk.read_link.Goals as goal

pub returns-in_err-read-clause-modelled : goal.returns-in_err-read-clause-modelled
returns-in_err-read-clause-modelled g c modelled =
    let error = err_from_is_err_and c.from_residual.result c.from_residual.ensures.1 in
    rw (error.1, error.2) (read_fails c.in_err-read.ensures.live c.in_err-read.field-0.0
    (rw c.name.ensures.bytes at (c.in_err-read.ensures.modelled modelled)))

pub returns-in_err-text-clause-modelled : goal.returns-in_err-text-clause-modelled
returns-in_err-text-clause-modelled g c modelled =
    let error = err_from_is_err_and c.from_residual-in_err-text.result c.from_residual-in_err-text.ensures.1 in
    rw (error.1, error.2) (reads_wants c.in_ok-read.ensures.live (rw c.name.ensures.bytes at (c.in_ok-read.ensures.modelled modelled))
    refl)

pub returns-in_err-put_parts-clause-modelled : goal.returns-in_err-put_parts-clause-modelled
returns-in_err-put_parts-clause-modelled g c modelled =
    let error = err_from_is_err_and c.from_residual-in_err-put_parts.result c.from_residual-in_err-put_parts.ensures.1 in
    rw (error.1, error.2) (reads_wants c.in_ok-read.ensures.live (rw c.name.ensures.bytes at (c.in_ok-read.ensures.modelled modelled))
    c.in_err-put_parts.ensures.memory)

pub returns-clause-modelled : goal.returns-clause-modelled
returns-clause-modelled g c modelled =
    let text = c.in_ok-text.ensures ∙ c.as_str.ensures.value in
    reads_now c.in_ok-read.ensures.live c.args.left.now.items (rw c.name.ensures.bytes at (c.in_ok-read.ensures.modelled modelled))
    (rw text at c.in_ok-put_parts.ensures.parts)
    (c.is_empty-was_last.ensures ∙ ap (λ l. length l == 0) c.as_slice.ensures.value)
    (rw text at c.slash_behind.ensures)

pub returns-in_err-read-clause-reads : goal.returns-in_err-read-clause-reads
returns-in_err-read-clause-reads g c =
    few_err (one_looked ReadLink c.args.here) c.in_err-read.field-0.0 c.in_err-read.ensures.logged

pub returns-in_err-text-clause-reads : goal.returns-in_err-text-clause-reads
returns-in_err-text-clause-reads g c = few_piece (one_looked ReadLink c.args.here) c.in_ok-read.ensures.logged

pub returns-in_err-put_parts-clause-reads : goal.returns-in_err-put_parts-clause-reads
returns-in_err-put_parts-clause-reads g c = few_piece (one_looked ReadLink c.args.here) c.in_ok-read.ensures.logged

pub returns-clause-reads : goal.returns-clause-reads
returns-clause-reads g c = few_piece (one_looked ReadLink c.args.here) c.in_ok-read.ensures.logged
