use Rattle.std.proofs.Common.{refl}
use Rattle.wasi_tree.proofs.TouchedLemmas.{sets_times}
use Rattle.wasi_tree.proofs.calls.set_times.Goals as goal

pub returns-clause-does : goal.returns-clause-does
returns-clause-does g c = rw (c.set_times.ensures.set, c.touch.ensures.touched) (sets_times _ _ _ _ _ refl refl)
