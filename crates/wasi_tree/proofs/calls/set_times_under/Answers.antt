use Rattle.std.proofs.Common.{◌∙◌, ap}
use Rattle.wasi_tree.specs.TouchedTree.{Touched}
use Rattle.wasi_tree.proofs.StoreLemmas.{times_at_is}
use Rattle.wasi_tree.proofs.calls.set_times_under.Goals as goal

pub returns-clause-step : goal.returns-clause-step
returns-clause-step g c = ap (λ (s : Touched). s.tree) c.set_times.ensures.set ∙ times_at_is _ _ _ _ _ _ c.in_ok-node.ensures.node
