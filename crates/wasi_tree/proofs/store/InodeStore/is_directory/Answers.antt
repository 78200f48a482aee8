use Rattle.std.proofs.Common.{◌∙◌, refl, arith}
use Rattle.wasi_host.specs.Tree.{is_directory}
use Rattle.wasi_tree.proofs.InodeLemmas.{next-inodes, said_at}
use Rattle.wasi_tree.proofs.store.InodeStore.is_directory.Goals as goal

pub returns : goal.returns
returns c = c.is_directory.ensures ∙ said_at _ _ is_directory (λ _ _ _. refl) c.self.view_is
    (omega (arith, c.if-n-count.false, c.count.ensures)) c.index.ensures

pub index-requires : goal.index-requires
index-requires c = omega (arith, c.if-n-count.false, c.count.ensures, next-inodes _ _ _ _ _ c.self.view_is)
