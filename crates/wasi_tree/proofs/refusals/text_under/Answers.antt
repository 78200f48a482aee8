use Rattle.std.proofs.Common.{sym}
use Rattle.std.proofs.lemmas.Result.{err_from_is_err_and}
use Rattle.wasi_tree.proofs.StoreLemmas.{link_refused, no_link_refused, link_is}
use Rattle.wasi_tree.proofs.refusals.text_under.Goals as goal

pub returns-in_err-node-clause-meaning : goal.returns-in_err-node-clause-meaning
returns-in_err-node-clause-meaning g c =
    let error = err_from_is_err_and c.from_residual.result c.from_residual.ensures.1 in
    rw (error.1, error.2) (link_refused _ _ _ _ (sym c.in_err-node.ensures.refusal))

pub returns-then-not-is_link-clause-meaning : goal.returns-then-not-is_link-clause-meaning
returns-then-not-is_link-clause-meaning g c =
    no_link_refused _ _ _ _ (sym c.in_ok-node.ensures.refusal) c.in_ok-node.ensures.node
    (sym c.if-not-is_link.ensures)

pub returns-clause-meaning : goal.returns-clause-meaning
returns-clause-meaning g c =
    link_is _ _ _ _ _ (sym c.in_ok-node.ensures.refusal) c.in_ok-node.ensures.node
    (sym c.if-not-is_link.ensures)
    c.text.ensures.text
