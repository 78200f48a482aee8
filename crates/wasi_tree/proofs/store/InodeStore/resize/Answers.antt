use Rattle.std.proofs.lemmas.List.{length-set}
use Rattle.std.proofs.Common.{◌∙◌, arith}
use Rattle.std.proofs.lemmas.Result.{err_from_is_err_and}
use Rattle.wasi_host.specs.Tree.{node_at}
use Rattle.wasi_host.specs.Step.{other_bytes, with_size}
use Rattle.wasi_tree.proofs.NamedLemmas.{unnamed-other_bytes}
use Rattle.wasi_tree.proofs.InodeLemmas.{IsInodeAt, inode_kept, stored_kept, tree_written, sound_written, count_same, inode_within}
use Rattle.wasi_tree.proofs.SoundLemmas.{seen-other_bytes, stays_same, stays_seen}
use Rattle.wasi_tree.proofs.store.InodeStore.resize.Goals as goal
use Rattle.wasi_tree.proofs.store.InodeStore.resize.Goals.{After-index_mut}

inode : (c : After-index_mut) → IsInodeAt c.self.inside.inodes.items c.self.inside.names.names c.self.inside.limits c.self.inside.worked.nodes
    c.args.self.now c.args.file c.index_mut.result.now
inode c = record { stands = c.self.view_is; within = c.requires; read = c.index_mut.ensures.value }

-- ---- memory is wanted

pub invariant_of-self : goal.invariant_of-self
invariant_of-self c =
    stored_kept (inode (goal.at.invariant_of-self c).After-index_mut) c.resize.new.self c.in_err-resize.ensures.kept
    c.self.invariant

pub returns-in_err-resize-clause-kept : goal.returns-in_err-resize-clause-kept
returns-in_err-resize-clause-kept c =
    let error = err_from_is_err_and c.from_residual.result c.from_residual.ensures.1 in
    let at = (goal.at.returns-in_err-resize-clause-kept c).After-index_mut in
    rw error.1 (inode_kept (inode at) c.resize.new.self c.in_err-resize.ensures.kept ∙ c.self.view_is)

pub returns-in_err-resize-clause-stays : goal.returns-in_err-resize-clause-stays
returns-in_err-resize-clause-stays c =
    let at = (goal.at.returns-in_err-resize-clause-stays c).After-index_mut in
    stays_same _ _ (inode_kept (inode at) c.resize.new.self c.in_err-resize.ensures.kept ∙ c.self.view_is)

-- ---- the file has the size

pub invariant_of-self-2 : goal.invariant_of-self-2
invariant_of-self-2 c =
    sound_written (inode (goal.at.invariant_of-self-2 c).After-index_mut)
    (other_bytes (with_size c.args.size)) (unnamed-other_bytes (with_size c.args.size)) c.resize.new.self c.in_ok-resize.ensures.sized
    c.mark.new.self.nodes
    (seen-other_bytes (with_size c.args.size)) c.self.invariant c.mark.ensures.count

pub returns-clause-sized : goal.returns-clause-sized
returns-clause-sized c =
    tree_written (inode (goal.at.returns-clause-sized c).After-index_mut)
    (other_bytes (with_size c.args.size)) (unnamed-other_bytes (with_size c.args.size)) c.resize.new.self c.in_ok-resize.ensures.sized
    c.mark.ensures.nodes

pub returns-clause-stays : goal.returns-clause-stays
returns-clause-stays c =
    rw (tree_written (inode (goal.at.returns-clause-stays c).After-index_mut)
    (other_bytes (with_size c.args.size)) (unnamed-other_bytes (with_size c.args.size)) c.resize.new.self c.in_ok-resize.ensures.sized
    c.mark.ensures.nodes)
    (stays_seen _ _ _ _ c.requires
    (seen-other_bytes (with_size c.args.size)
    (node_at c.args.self.now c.args.file).content))

pub returns-clause-count : goal.returns-clause-count
returns-clause-count c = count_same _ _ _ _ (length-set c.self.inside.inodes.items _ _) c.self.view_is

pub index_mut-requires : goal.index_mut-requires
index_mut-requires c = omega (arith, inode_within _ _ c.self.view_is c.requires)

pub returns-in_err-resize-clause-count : goal.returns-in_err-resize-clause-count
returns-in_err-resize-clause-count c = count_same _ _ _ _ (length-set c.self.inside.inodes.items _ _) c.self.view_is
