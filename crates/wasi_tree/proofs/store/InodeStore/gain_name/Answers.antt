use Rattle.std.proofs.lemmas.List.{length-set}
use Rattle.std.proofs.Common.{◌<◌, ◌-◌, ◌^◌, refl, subst, arith}
use Rattle.wasi_host.specs.Tree.{node_at, links_of}
use Rattle.wasi_host.specs.Step.{one_name_more}
use Rattle.wasi_tree.proofs.NamedLemmas.{unnamed-one_name_more}
use Rattle.wasi_tree.proofs.InodeLemmas.{IsInodeAt, inode_says, tree_written, sound_written, count_same, inode_within}
use Rattle.wasi_tree.proofs.SoundLemmas.{seen-one_name_more, stays_seen}
use Rattle.wasi_tree.proofs.store.InodeStore.gain_name.Goals as goal
use Rattle.wasi_tree.proofs.store.InodeStore.gain_name.Goals.{After-index_mut}

inode : (c : After-index_mut) → IsInodeAt c.self.inside.inodes.items c.self.inside.names.names c.self.inside.limits c.self.inside.worked.nodes
    c.args.self.now c.args.node c.index_mut.result.now
inode c = record { stands = c.self.view_is; within = c.requires.within; read = c.index_mut.ensures.value }

pub gain_name-requires : goal.gain_name-requires
gain_name-requires c =
    subst (λ n. n < 2 ^ 64 - 1) (inode_says (inode (goal.at.gain_name-requires c).After-index_mut) links_of (λ _ _ _. refl))
    c.requires.room

pub invariant_of-self : goal.invariant_of-self
invariant_of-self c =
    sound_written (inode (goal.at.invariant_of-self c).After-index_mut) one_name_more unnamed-one_name_more c.gain_name.new.self
    c.gain_name.ensures c.mark.new.self.nodes seen-one_name_more c.self.invariant c.mark.ensures.count

pub returns-clause-gained : goal.returns-clause-gained
returns-clause-gained c =
    tree_written (inode (goal.at.returns-clause-gained c).After-index_mut) one_name_more unnamed-one_name_more c.gain_name.new.self
    c.gain_name.ensures c.mark.ensures.nodes

pub returns-clause-stays : goal.returns-clause-stays
returns-clause-stays c =
    rw (tree_written (inode (goal.at.returns-clause-stays c).After-index_mut) one_name_more unnamed-one_name_more c.gain_name.new.self
    c.gain_name.ensures c.mark.ensures.nodes)
    (stays_seen _ _ _ _ c.requires.within (seen-one_name_more (node_at c.args.self.now c.args.node).content))

pub returns-clause-count : goal.returns-clause-count
returns-clause-count c = count_same _ _ _ _ (length-set c.self.inside.inodes.items _ _) c.self.view_is

pub index_mut-requires : goal.index_mut-requires
index_mut-requires c = omega (arith, inode_within _ _ c.self.view_is c.requires.within)
