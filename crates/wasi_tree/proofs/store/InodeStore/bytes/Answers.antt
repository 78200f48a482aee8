use Rattle.std.proofs.Common.{◌∙◌, refl, arith}
use Rattle.wasi_host.specs.Tree.{bytes_of}
use Rattle.wasi_tree.proofs.InodeLemmas.{inode_within, said_at}
use Rattle.wasi_tree.proofs.store.InodeStore.bytes.Goals as goal

pub returns : goal.returns
returns c = c.bytes.ensures ∙ said_at _ _ bytes_of (λ _ _ _. refl) c.self.view_is c.requires c.index.ensures

pub index-requires : goal.index-requires
index-requires c = omega (arith, inode_within _ _ c.self.view_is c.requires)
