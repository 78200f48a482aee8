use Rattle.std.proofs.Common.{arith}
use Rattle.std.proofs.lemmas.List.{length-set}
use Rattle.wasi_host.specs.Tree.{node_at}
use Rattle.wasi_host.specs.Step.{name_lost}
use Rattle.wasi_tree.proofs.NamedLemmas.{unnamed-name_lost}
use Rattle.wasi_tree.proofs.InodeLemmas.{IsInodeAt, tree_written, sound_written, count_same, inode_within}
use Rattle.wasi_tree.proofs.SoundLemmas.{seen-name_lost, stays_seen}
use Rattle.wasi_tree.proofs.store.InodeStore.lose_name.Goals as goal

inode : (c : goal.After-mark) → IsInodeAt c.self.inside.inodes.items c.self.inside.names.names c.self.inside.limits c.self.inside.worked.nodes
    c.args.self.now c.args.node c.index_mut.result.now
inode c = record { stands = c.self.view_is; within = c.requires; read = c.index_mut.ensures.value }

pub invariant_of-self : goal.invariant_of-self
invariant_of-self c =
    sound_written (inode c) name_lost unnamed-name_lost c.lose_name.new.self c.lose_name.ensures c.mark.new.self.nodes
    seen-name_lost c.self.invariant c.mark.ensures.count

pub returns-clause-lost : goal.returns-clause-lost
returns-clause-lost c = tree_written (inode c) name_lost unnamed-name_lost c.lose_name.new.self c.lose_name.ensures c.mark.ensures.nodes

pub returns-clause-stays : goal.returns-clause-stays
returns-clause-stays c =
    rw (tree_written (inode c) name_lost unnamed-name_lost c.lose_name.new.self c.lose_name.ensures c.mark.ensures.nodes)
    (stays_seen _ _ _ _ c.requires (seen-name_lost (node_at c.args.self.now c.args.node).content))

pub returns-clause-count : goal.returns-clause-count
returns-clause-count c = count_same _ _ _ _ (length-set c.self.inside.inodes.items _ _) c.self.view_is

pub index_mut-requires : goal.index_mut-requires
index_mut-requires c = omega (arith, inode_within _ _ c.self.view_is c.requires)
