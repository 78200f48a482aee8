use Rattle.std.proofs.lemmas.List.{length-set}
use Rattle.std.proofs.Common.{arith}
use Rattle.wasi_host.specs.Tree.{node_at}
use Rattle.wasi_host.specs.Step.{other_bytes, with_size}
use Rattle.wasi_tree.proofs.NamedLemmas.{unnamed-other_bytes}
use Rattle.wasi_tree.proofs.InodeLemmas.{IsInodeAt, tree_written, sound_written, count_same, inode_within}
use Rattle.wasi_tree.proofs.SoundLemmas.{seen-other_bytes, stays_seen}
use Rattle.wasi_tree.proofs.store.InodeStore.cut.Goals as goal

inode : (c : goal.After-mark) → IsInodeAt c.self.inside.inodes.items c.self.inside.names.names c.self.inside.limits c.self.inside.worked.nodes
    c.args.self.now c.args.file c.index_mut.result.now
inode c = record { stands = c.self.view_is; within = c.requires; read = c.index_mut.ensures.value }

pub invariant_of-self : goal.invariant_of-self
invariant_of-self c =
    sound_written (inode c) (other_bytes (with_size 0)) (unnamed-other_bytes (with_size 0)) c.cut.new.self c.cut.ensures c.mark.new.self.nodes
    (seen-other_bytes (with_size 0)) c.self.invariant c.mark.ensures.count

pub returns-clause-cut : goal.returns-clause-cut
returns-clause-cut c =
    tree_written (inode c) (other_bytes (with_size 0)) (unnamed-other_bytes (with_size 0)) c.cut.new.self c.cut.ensures c.mark.ensures.nodes

pub returns-clause-stays : goal.returns-clause-stays
returns-clause-stays c =
    rw (tree_written (inode c) (other_bytes (with_size 0)) (unnamed-other_bytes (with_size 0)) c.cut.new.self c.cut.ensures c.mark.ensures.nodes)
    (stays_seen _ _ _ _ c.requires (seen-other_bytes (with_size 0) (node_at c.args.self.now c.args.file).content))

pub returns-clause-count : goal.returns-clause-count
returns-clause-count c = count_same _ _ _ _ (length-set c.self.inside.inodes.items _ _) c.self.view_is

pub index_mut-requires : goal.index_mut-requires
index_mut-requires c = omega (arith, inode_within _ _ c.self.view_is c.requires)
