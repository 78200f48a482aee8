use Rattle.std.proofs.Common.{◌∙◌, sym, arith}
use Rattle.wasi_tree.proofs.InodeLemmas.{IsInodeAt, inode_metadata, inode_within}
use Rattle.wasi_tree.proofs.store.InodeStore.metadata.Goals as goal

pub returns-clause-metadata : goal.returns-clause-metadata
returns-clause-metadata c =
    let inode : IsInodeAt c.self.inside.inodes.items c.self.inside.names.names c.self.inside.limits c.self.inside.worked.nodes
    c.args.self.now c.args.node c.index.result.now =
    record { stands = c.self.view_is; within = c.requires; read = c.index.ensures } in
    c.metadata.ensures ∙ sym (inode_metadata inode)

pub index-requires : goal.index-requires
index-requires c = omega (arith, inode_within _ _ c.self.view_is c.requires)
