use Rattle.std.proofs.lemmas.Result.{err_from_is_err_and}
use Rattle.wasi_form.proofs.Accepted.{accepted}
use Rattle.wasi_script.proofs.Tops.{judged, unread, unread_some, no_script, no_script_some}
use Rattle.wasi_script.proofs.program.read_from.Goals as goal

pub returns-in_err-buffer-clause-read : goal.returns-in_err-buffer-clause-read
returns-in_err-buffer-clause-read g c = λ modelled.
    let error = err_from_is_err_and c.from_residual.result c.from_residual.ensures.1 in
    rw (error.1, error.2) (unread _ _ _ (c.in_err-buffer.ensures.bytes modelled))

pub returns-in_err-read_script-clause-read : goal.returns-in_err-read_script-clause-read
returns-in_err-read_script-clause-read g c = λ modelled.
    let residual = c.from_residual-in_err-read_script in
    let error = err_from_is_err_and residual.result residual.ensures.1 in
    let all = c.in_ok-buffer.ensures.bytes modelled in
    let reads = rw c.as_slice.ensures.value at c.in_err-read_script.ensures.verdict in
    rw (error.1, error.2) (no_script _ reads all.0 all.1 all.2)

pub returns-clause-within : goal.returns-clause-within
returns-clause-within g c = (accepted c.in_ok-read_script.ensures.verdict).within

pub returns-clause-rising : goal.returns-clause-rising
returns-clause-rising g c = c.in_ok-read_script.ensures.rising

pub returns-clause-quota : goal.returns-clause-quota
returns-clause-quota g c = c.in_ok-read_script.ensures.quota

pub returns-clause-read : goal.returns-clause-read
returns-clause-read g c = λ modelled.
    let all = c.in_ok-buffer.ensures.bytes modelled in
    let reads = rw c.as_slice.ensures.value at c.in_ok-read_script.ensures.verdict in
    judged _ reads all.0 all.1 all.2

pub returns-in_err-buffer-clause-some : goal.returns-in_err-buffer-clause-some
returns-in_err-buffer-clause-some g c =
    let error = err_from_is_err_and c.from_residual.result c.from_residual.ensures.1 in
    rw (error.1, error.2) (unread_some _)

pub returns-in_err-read_script-clause-some : goal.returns-in_err-read_script-clause-some
returns-in_err-read_script-clause-some g c =
    let residual = c.from_residual-in_err-read_script in
    let error = err_from_is_err_and residual.result residual.ensures.1 in
    rw (error.1, error.2) (no_script_some _ _ c.in_err-read_script.ensures.verdict)

pub returns-clause-some : goal.returns-clause-some
returns-clause-some g c = (_, c.in_ok-read_script.ensures.verdict)
