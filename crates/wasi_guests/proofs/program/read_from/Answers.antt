use Rattle.std.proofs.Common.{refl}
use Rattle.std.proofs.lemmas.Result.{err_from_is_err_and}
use Rattle.wasi_io.specs.Endings.{left_unread}
use Rattle.wasi_guests.proofs.ScriptLemmas.{each_within}
use Rattle.wasi_guests.proofs.TopLemmas.{read_whole, unread, unread_some, no_script, no_script_some}
use Rattle.wasi_guests.proofs.program.read_from.Goals as goal

pub returns-in_err-buffer-clause-read : goal.returns-in_err-buffer-clause-read
returns-in_err-buffer-clause-read g c = λ modelled.
    let error = err_from_is_err_and c.from_residual.result c.from_residual.ensures.1 in
    rw (error.1, error.2) (unread _ _ _ (c.in_err-buffer.ensures.bytes modelled))

pub returns-in_err-buffer-clause-some : goal.returns-in_err-buffer-clause-some
returns-in_err-buffer-clause-some g c =
    let error = err_from_is_err_and c.from_residual.result c.from_residual.ensures.1 in
    rw (error.1, error.2) (unread_some _)

pub returns-in_err-read_guest_script-clause-read : goal.returns-in_err-read_guest_script-clause-read
returns-in_err-read_guest_script-clause-read g c = λ modelled.
    let residual = c.from_residual-in_err-read_guest_script in
    let error = err_from_is_err_and residual.result residual.ensures.1 in
    let all = c.in_ok-buffer.ensures.bytes modelled in
    let reads = rw c.as_slice.ensures.value at c.in_err-read_guest_script.ensures.verdict in
    rw (error.1, error.2) (no_script _ reads all.0 all.1 all.2)

pub returns-in_err-read_guest_script-clause-some : goal.returns-in_err-read_guest_script-clause-some
returns-in_err-read_guest_script-clause-some g c =
    let residual = c.from_residual-in_err-read_guest_script in
    let error = err_from_is_err_and residual.result residual.ensures.1 in
    rw (error.1, error.2) (no_script_some _ _ c.in_err-read_guest_script.ensures.verdict)

pub returns-clause-can_run : goal.returns-clause-can_run
returns-clause-can_run g c = record {
  within = each_within c.in_ok-read_guest_script.ensures.verdict;
  quota = c.in_ok-read_guest_script.ensures.quota;
  schedule = c.in_ok-read_guest_script.ensures.schedule;
}

pub returns-clause-read : goal.returns-clause-read
returns-clause-read g c = λ modelled.
    let all = c.in_ok-buffer.ensures.bytes modelled in
    let reads = rw c.as_slice.ensures.value at c.in_ok-read_guest_script.ensures.verdict in
    read_whole reads all.0 all.1 all.2

pub returns-clause-some : goal.returns-clause-some
returns-clause-some g c = (_, left_unread _, (c.in_ok-read_guest_script.ensures.verdict, refl))
