use Rattle.std.proofs.Common.{refl, sym}
use Rattle.std.proofs.lemmas.List.{length-map}
use Rattle.std.proofs.lemmas.Result.{err_from_is_err_and}
use Rattle.wasi_form.specs.Plan.{planned_guests}
use Rattle.wasi_form.specs.Verdict.{guests_kind}
use Rattle.wasi_form.proofs.Accepted.{unread_before, tested, refused_by, past_limit, taken, guests_accepted, each_session}
use Rattle.wasi_form.proofs.script_reader.read_guest_script.Goals as goal

pub returns-in_err-draft-clause-verdict : goal.returns-in_err-draft-clause-verdict
returns-in_err-draft-clause-verdict g c =
    let error = err_from_is_err_and c.from_residual.result c.from_residual.ensures.1 in
    rw (error.1, error.2) (unread_before guests_kind _ _ c.in_err-draft.ensures)

pub returns-in_err-nodes-clause-verdict : goal.returns-in_err-nodes-clause-verdict
returns-in_err-nodes-clause-verdict g c =
    let error = err_from_is_err_and c.from_residual-in_err-nodes.result c.from_residual-in_err-nodes.ensures.1 in
    rw (error.1, error.2) (refused_by guests_kind _ _ _ c.in_ok-draft.ensures c.in_err-nodes.ensures)

pub returns-then-not-are_guests_within-clause-verdict : goal.returns-then-not-are_guests_within-clause-verdict
returns-then-not-are_guests_within-clause-verdict g c =
    let draft = c.in_ok-draft.draft in
    let script = tested guests_kind (λ t. planned_guests t.nodes t.limits draft.guests.items draft.schedule.items) (λ t. refl) c.in_ok-draft.ensures c.in_ok-nodes.ensures in
    past_limit script (sym c.if-not-are_guests_within.ensures)

pub returns : goal.returns
returns g c =
    let draft = c.in_ok-draft.draft in
    let nodes = c.in_ok-nodes.nodes in
    let script = tested guests_kind (λ t. planned_guests t.nodes t.limits draft.guests.items draft.schedule.items) (λ t. refl) c.in_ok-draft.ensures c.in_ok-nodes.ensures in
    let verdict = taken script (sym c.if-not-are_guests_within.ensures) in
    let accepted = guests_accepted verdict in
    let each = each_session nodes.nodes nodes.limits draft.guests.items accepted.guests in
    record {
      verdict = verdict;
      services = λ k d l. (each k d l).accepted.services;
      quota = λ k d l. (each k d l).accepted.quota;
      no_faults = λ k d l. (each k d l).faults;
      schedule = λ k d l. rw length-map at (accepted.schedule k d l);
    }
