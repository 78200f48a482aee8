use Rattle.wasi_tree.proofs.MemLemmas.{cause_done, fated}
use Rattle.wasi_tree.proofs.tree_host.TreeHostHost.unlink_at.Goals as goal

pub returns-clause-cause : goal.returns-clause-cause
returns-clause-cause g c = cause_done _ _ _ _ _ c.unlink_at-answer.ensures.does

pub returns-clause-fails : goal.returns-clause-fails
returns-clause-fails g c = λ _. fated _ (returns-clause-cause g c)
