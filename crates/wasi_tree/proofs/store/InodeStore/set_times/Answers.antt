use Rattle.std.proofs.lemmas.List.{length-set}
use Rattle.std.proofs.Common.{◌∙◌, refl, ap, arith}
use Rattle.std.specs.FinSet.{insert}
use Rattle.wasi_host.specs.Tree.{Tree, node_at}
use Rattle.wasi_host.specs.Step.{with_times}
use Rattle.wasi_host.proofs.Changes.{changed}
use Rattle.wasi_tree.proofs.InodeLemmas.{IsInodeAt, tree_put, sound_inode, count_same, inode_within}
use Rattle.wasi_tree.proofs.SoundLemmas.{stays_changed}
use Rattle.wasi_tree.proofs.store.InodeStore.set_times.Goals as goal

inode : (c : goal.After-mark) → IsInodeAt c.self.inside.inodes.items c.self.inside.names.names c.self.inside.limits c.self.inside.worked.nodes
    c.args.self.now c.args.node c.index_mut.result.now
inode c = record { stands = c.self.view_is; within = c.requires; read = c.index_mut.ensures.value }

pub invariant_of-self : goal.invariant_of-self
invariant_of-self c =
    sound_inode (inode c) (λ node. with_times node c.args.atime c.args.mtime) (λ _ _. refl) c.set_times.new.self c.set_times.ensures
    c.mark.new.self.nodes (λ node. refl) c.self.invariant c.mark.ensures.count

pub returns-clause-set : goal.returns-clause-set
returns-clause-set c =
    let t : Tree = c.args.self.now in
    let n = c.args.node in
    tree_put (inode c) (λ node. with_times node c.args.atime c.args.mtime) (λ _ _. refl) c.set_times.new.self c.set_times.ensures
    c.mark.new.self.nodes
    ∙ ap (changed t n (with_times (node_at t n) c.args.atime c.args.mtime))
    (c.mark.ensures.nodes ∙ ap (λ (u : Tree). insert u.worked n) c.self.view_is)

pub returns-clause-stays : goal.returns-clause-stays
returns-clause-stays c =
    rw (tree_put (inode c) (λ node. with_times node c.args.atime c.args.mtime) (λ _ _. refl) c.set_times.new.self c.set_times.ensures
    c.mark.new.self.nodes)
    (stays_changed _ _ _ _ c.requires refl)

pub returns-clause-count : goal.returns-clause-count
returns-clause-count c = count_same _ _ _ _ (length-set c.self.inside.inodes.items _ _) c.self.view_is

pub index_mut-requires : goal.index_mut-requires
index_mut-requires c = omega (arith, inode_within _ _ c.self.view_is c.requires)
