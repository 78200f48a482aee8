use Rattle.std.proofs.Common.{sym}
use Rattle.wasi_tree.proofs.StoreLemmas.{stat_at_is}
use Rattle.wasi_tree.proofs.refusals.stat_of.Goals as goal

pub returns-clause-meaning : goal.returns-clause-meaning
returns-clause-meaning g c =
    stat_at_is _ _ _ _ _ (sym c.in_ok-node.ensures.refusal) c.in_ok-node.ensures.node c.metadata.ensures.metadata
