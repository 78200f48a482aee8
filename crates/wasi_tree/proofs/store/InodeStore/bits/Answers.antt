use Rattle.std.proofs.Common.{sym, ap, arith}
use Rattle.wasi_host.specs.Tree.{Node}
use Rattle.wasi_tree.proofs.InodeLemmas.{IsInodeAt, inode_node, inode_within}
use Rattle.wasi_tree.proofs.store.InodeStore.bits.Goals as goal

pub returns : goal.returns
returns c =
    let inode : IsInodeAt c.self.inside.inodes.items c.self.inside.names.names c.self.inside.limits c.self.inside.worked.nodes
    c.args.self.now c.args.n c.index.result.now =
    record { stands = c.self.view_is; within = c.requires; read = c.index.ensures } in
    sym (ap (λ (node : Node). node.bits) (inode_node inode))

pub index-requires : goal.index-requires
index-requires c = omega (arith, inode_within _ _ c.self.view_is c.requires)
