use Rattle.std.proofs.Common.{sym, arith}
use Rattle.std.proofs.lemmas.Grind.{common_steps}
use Rattle.wasi_tree.proofs.StoreLemmas.{open_refused}
use Rattle.wasi_tree.proofs.refusals.refuse_open.Goals as goal

pub returns-in-Some : goal.returns-in-Some
returns-in-Some g c = sym (open_refused _ _ _ _ _ (grind (arith, common_steps)) (sym c.if-are_refused.ensures.test) (sym c.in-Some.ensures))
