use Rattle.wasi_tree.proofs.InodeLemmas.{sound_at}
use Rattle.wasi_tree.proofs.store.InodeStore.laws.Goals as goal

pub returns : goal.returns
returns c = λ n. (sound_at c.self.view_is c.self.invariant).nodes n
