use Rattle.std.proofs.Common.{refl, sym}
use Rattle.std.proofs.lemmas.Result.{err_from_is_err_and}
use Rattle.wasi_p2_calls.proofs.Reading.{read_so, shown_so}
use Rattle.wasi_p2_calls.proofs.context.WasiFilesystemCtxView.read.Goals as goal

pub returns-in_err-bytes-clause-call : goal.returns-in_err-bytes-clause-call
returns-in_err-bytes-clause-call g c =
    let error = err_from_is_err_and c.from_residual-in_err-bytes.result c.from_residual-in_err-bytes.ensures.1 in
    rw (error.1, error.2) (read_so (sym c.in_ok-file.ensures.is) c.requires.owned
    (rw c.in_err-bytes.was at c.in_ok-reply.ensures.reads) refl)

pub returns-clause-call : goal.returns-clause-call
returns-clause-call g c = read_so (sym c.in_ok-file.ensures.is) c.requires.owned
    (rw c.in_ok-bytes.was at c.in_ok-reply.ensures.reads) (shown_so c.with_end.result c.with_end.ensures.bytes c.with_end.ensures.end)
