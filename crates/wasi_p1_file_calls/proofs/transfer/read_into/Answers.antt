use Rattle.std.proofs.Common.{inl, arith}
use Rattle.std.proofs.lemmas.Grind.{common_steps}
use Rattle.std.proofs.lemmas.Result.{err_from_is_err_and}
use Rattle.wasi_guest.proofs.Ranges.{length_part, part_same, part_written}
use Rattle.wasi_host.specs.declared.errors.HostError.TheVariants.{Code}
use Rattle.wasi_p1_model.proofs.Reading.{read_ok, read_err, read_front}
use Rattle.wasi_p1_file_calls.proofs.transfer.read_into.Goals as goal

pub returns-in_err-count-clause-front : goal.returns-in_err-count-clause-front
returns-in_err-count-clause-front g c =
    let error = err_from_is_err_and c.from_residual.result c.from_residual.ensures.1 in
    rw error.1 (inl (Code c.in_err-count.field-0.0, error.2))

pub returns-in_err-count-clause-same : goal.returns-in_err-count-clause-same
returns-in_err-count-clause-same g c =
    let error = err_from_is_err_and c.from_residual.result c.from_residual.ensures.1 in
    rw (error.1, c.in_err-count.ensures.kept) (part_same _ _ _ c.requires.inside)

pub returns-in_err-count-clause-modelled : goal.returns-in_err-count-clause-modelled
returns-in_err-count-clause-modelled g c = λ modelled.
    let error = err_from_is_err_and c.from_residual.result c.from_residual.ensures.1 in
    rw (error.1, error.2) (read_err _ _ c.args.memory.now c.pread.ensures.live (length_part _ _ _ c.requires.inside)
    c.in_err-count.ensures.cause.io (c.in_err-count.ensures.modelled modelled))

pub returns-clause-front : goal.returns-clause-front
returns-clause-front g c =
    let sized = length_part c.args.memory.now c.args.buffer.buf c.args.buffer.buf_len c.requires.inside in
    rw (part_written c.args.memory.now c.args.buffer.buf c.args.buffer.buf_len c.pread.new.buf c.requires.inside
    (grind (arith, common_steps))) (read_front (record {
      sized = sized;
      inside = c.requires.inside;
      fits = c.in_ok-count.ensures.fits;
      long = grind (arith, common_steps);
      rest = c.in_ok-count.ensures.rest;
    }))

pub returns-clause-modelled : goal.returns-clause-modelled
returns-clause-modelled g c = λ modelled.
    let sized = length_part c.args.memory.now c.args.buffer.buf c.args.buffer.buf_len c.requires.inside in
    rw (part_written c.args.memory.now c.args.buffer.buf c.args.buffer.buf_len c.pread.new.buf c.requires.inside
    (grind (arith, common_steps))) (read_ok c.pread.ensures.live (record {
      sized = sized;
      inside = c.requires.inside;
      fits = c.in_ok-count.ensures.fits;
      long = grind (arith, common_steps);
      rest = c.in_ok-count.ensures.rest;
    }) (c.in_ok-count.ensures.modelled modelled))
