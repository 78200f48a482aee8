use Rattle.std.proofs.Common.{refl, rules}
use Rattle.wasi_resolve.specs.TwoPathOps.{HardLink}
use Rattle.wasi_resolve.specs.PathRequest.{AtTwo}
use Rattle.wasi_p1_model.proofs.Below.{done_err, done_ok}
use Rattle.wasi_p1_model.specs.Calls.TwoPaths.{path_link}
use Rattle.wasi_p1_model.proofs.Taking.{refusals}
use Rattle.wasi_p1_state.proofs.Viewing.{lowered_err, lowered_ok, on_refusal}
use Rattle.wasi_p1_path_calls.proofs.two_paths.path_link.Goals as goal

pub returns-in_err-between-clause-spec : goal.returns-in_err-between-clause-spec
unfolding path_link
returns-in_err-between-clause-spec g c =
    let given = c.in_err-between.ensures in
    let lower = lowered_err _ given.cause given.did in
    rw (given.same, ← c.context.view_is) (on_refusal lower c.from_residual-in_err-between.ensures.1 (done_err (AtTwo _ _ _ _ HardLink)
    (rw (← c.in_ok-flags.ensures.specified, ← c.in_ok-old.ensures.specified, ← c.in_ok-new.ensures.specified, ← c.in_ok-old_text.ensures.specified, ← c.in_ok-new_text.ensures.specified) refl) c.context.invariant.owned _ lower.cause
    lower.did.permit refl refl lower.did.does))

pub returns-clause-spec : goal.returns-clause-spec
unfolding path_link
returns-clause-spec g c =
    let given = c.in_ok-between.ensures in
    let lower = lowered_ok _ given.did in
    rw (given.same, ← c.context.view_is) (done_ok (AtTwo _ _ _ _ HardLink)
    (rw (← c.in_ok-flags.ensures.specified, ← c.in_ok-old.ensures.specified, ← c.in_ok-new.ensures.specified, ← c.in_ok-old_text.ensures.specified, ← c.in_ok-new_text.ensures.specified) refl) c.context.invariant.owned
    tt lower.permit lower.does)

pub returns-in_err-old_text-clause-spec : goal.returns-in_err-old_text-clause-spec
unfolding path_link
returns-in_err-old_text-clause-spec g c = rw (← c.context.view_is) (search (rules, refusals))

pub returns-in_err-new_text-clause-spec : goal.returns-in_err-new_text-clause-spec
unfolding path_link
returns-in_err-new_text-clause-spec g c = rw (← c.context.view_is) (search (rules, refusals))

pub returns-in_err-old-clause-spec : goal.returns-in_err-old-clause-spec
unfolding path_link
returns-in_err-old-clause-spec g c = rw (← c.context.view_is) (search (rules, refusals))

pub returns-in_err-new-clause-spec : goal.returns-in_err-new-clause-spec
unfolding path_link
returns-in_err-new-clause-spec g c = rw (← c.context.view_is) (search (rules, refusals))
