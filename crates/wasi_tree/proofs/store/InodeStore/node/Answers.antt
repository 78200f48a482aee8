use Rattle.std.proofs.Common.{sym, subst, arith}
use Rattle.wasi_tree_index.specs.DirEntryKeys.{names_at}
use Rattle.wasi_tree.specs.Viewed.{Views}
use Rattle.wasi_tree.proofs.InodeLemmas.{IsInodeAt, inode_node, inode_within}
use Rattle.wasi_tree.proofs.store.InodeStore.node.Goals as goal

pub returns : goal.returns
returns c =
    let inode : IsInodeAt c.self.inside.inodes.items c.self.inside.names.names c.self.inside.limits c.self.inside.worked.nodes
    c.args.self.now c.args.n c.index.result.now =
    record { stands = c.self.view_is; within = c.requires; read = c.index.ensures } in
    subst (λ node. Views node c.view.result) (sym (inode_node inode)) (c.view.ensures (names_at c.self.inside.names.names c.args.n))

pub index-requires : goal.index-requires
index-requires c = omega (arith, inode_within _ _ c.self.view_is c.requires)
