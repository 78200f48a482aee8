use Rattle.std.proofs.Common.{◌∙◌, length, sym, ap}
use Rattle.wasi_tree.proofs.InodeLemmas.{next-inodes}
use Rattle.wasi_tree.proofs.store.InodeStore.count.Goals as goal

pub returns : goal.returns
returns c = ap length c.as_slice.ensures.value ∙ sym (next-inodes _ _ _ _ _ c.self.view_is)
