use Rattle.std.proofs.Common.{refl, sym}
use Rattle.std.proofs.lemmas.Result.{err_from_is_err_and}
use Rattle.wasi_form.specs.Plan.{planned}
use Rattle.wasi_form.specs.Verdict.{script_kind}
use Rattle.wasi_form.proofs.Accepted.{unread_before, tested, refused_by, past_limit, taken, accepted}
use Rattle.wasi_form.proofs.script_reader.read_script.Goals as goal

pub returns-in_err-draft-clause-verdict : goal.returns-in_err-draft-clause-verdict
returns-in_err-draft-clause-verdict g c =
    let error = err_from_is_err_and c.from_residual.result c.from_residual.ensures.1 in
    rw (error.1, error.2) (unread_before script_kind _ _ c.in_err-draft.ensures)

pub returns-in_err-nodes-clause-verdict : goal.returns-in_err-nodes-clause-verdict
returns-in_err-nodes-clause-verdict g c =
    let error = err_from_is_err_and c.from_residual-in_err-nodes.result c.from_residual-in_err-nodes.ensures.1 in
    rw (error.1, error.2) (refused_by script_kind _ _ _ c.in_ok-draft.ensures c.in_err-nodes.ensures)

pub returns-then-not-is_within_limits-clause-verdict : goal.returns-then-not-is_within_limits-clause-verdict
returns-then-not-is_within_limits-clause-verdict g c =
    let script = tested script_kind (λ t. planned t.nodes t.limits c.in_ok-draft.draft.session) (λ t. refl) c.in_ok-draft.ensures c.in_ok-nodes.ensures in
    past_limit script (sym c.if-not-is_within_limits.ensures)

pub returns : goal.returns
returns g c =
    let script = tested script_kind (λ t. planned t.nodes t.limits c.in_ok-draft.draft.session) (λ t. refl) c.in_ok-draft.ensures c.in_ok-nodes.ensures in
    let verdict = taken script (sym c.if-not-is_within_limits.ensures) in
    record {
      verdict = verdict;
      services = (accepted verdict).services;
      rising = (accepted verdict).faults;
      quota = (accepted verdict).quota;
    }
