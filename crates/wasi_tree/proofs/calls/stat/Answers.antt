use Rattle.std.proofs.Common.{refl}
use Rattle.wasi_tree.proofs.TouchedLemmas.{stats}
use Rattle.wasi_tree.proofs.calls.stat.Goals as goal

pub returns-clause-does : goal.returns-clause-does
returns-clause-does g c =
    rw c.touch.ensures.touched (stats _ _ _ _ (rw c.touch.ensures.touched at c.metadata.ensures.metadata) refl refl)
