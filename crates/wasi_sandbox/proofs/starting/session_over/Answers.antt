use Rattle.std.proofs.Common.{sym, ◌∙◌}
use Rattle.std.proofs.lemmas.Result.{err_from_is_err_and}
use Rattle.wasi_form.proofs.Accepted.{plan_is_read}
use Rattle.wasi_sandbox.proofs.Starts.{begins_over, guest_over, own_tree, past_limit_over, taken_over, unread_over, within_over}
use Rattle.wasi_sandbox.proofs.starting.session_over.Goals as goal

pub returns-in_err-draft : goal.returns-in_err-draft
returns-in_err-draft c =
    let error = err_from_is_err_and c.from_residual.result c.from_residual.ensures.1 in
    rw (error.1, error.2) (record {
      judged = unread_over c.args.base.now.tree _ _ c.in_err-draft.ensures;
      rising = tt;
      quota = tt;
      within = tt;
    })

pub returns-then-not-has_no_tree : goal.returns-then-not-has_no_tree
returns-then-not-has_no_tree c = record {
  judged = own_tree c.args.base.now.tree _ _ c.in_ok-draft.ensures (sym c.has_no_tree.ensures ∙ c.if-not-has_no_tree.true);
  rising = tt;
  quota = tt;
  within = tt;
}

pub returns-then-not-is_session_within : goal.returns-then-not-is_session_within
returns-then-not-is_session_within c =
    let draft = c.in_ok-draft.draft in
    let tree = c.args.base.now.tree in
    let is = rw (c.are_directories-directories.ensures, c.as_slice.ensures.value) at c.is_session_within.ensures in
    record {
      judged = past_limit_over tree _ draft c.in_ok-draft.ensures (sym c.has_no_tree.ensures ∙ c.if-not-has_no_tree.false)
          (within_over tree draft.session _ (sym is ∙ c.if-not-is_session_within.true));
      rising = tt;
      quota = tt;
      within = tt;
    }

pub returns-then-not-has_no_guest : goal.returns-then-not-has_no_guest
returns-then-not-has_no_guest c =
    let draft = c.in_ok-draft.draft in
    let tree = c.args.base.now.tree in
    let is = rw (c.are_directories-directories.ensures, c.as_slice.ensures.value) at c.is_session_within.ensures in
    record {
      judged = guest_over tree _ draft c.in_ok-draft.ensures (sym c.has_no_tree.ensures ∙ c.if-not-has_no_tree.false)
          (within_over tree draft.session _ (sym is ∙ c.if-not-is_session_within.false))
          (sym c.has_no_guest.ensures ∙ c.if-not-has_no_guest.true);
      rising = tt;
      quota = tt;
      within = tt;
    }

pub returns : goal.returns
returns c =
    let draft = c.in_ok-draft.draft in
    let tree = c.args.base.now.tree in
    let is = rw (c.are_directories-directories.ensures, c.as_slice.ensures.value) at c.is_session_within.ensures in
    let within = within_over tree draft.session _ (sym is ∙ c.if-not-is_session_within.false) in
    let range = plan_is_read _ _ c.in_ok-draft.ensures in
    record {
      judged = taken_over tree _ draft c.in_ok-draft.ensures (sym c.has_no_tree.ensures ∙ c.if-not-has_no_tree.false)
          within (sym c.has_no_guest.ensures ∙ c.if-not-has_no_guest.false);
      rising = range.faults;
      quota = range.quota;
      within = begins_over tree draft.session within;
    }
