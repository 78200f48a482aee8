use Rattle.std.proofs.Common.{◌≤◌, ◌∙◌, map, take_all, ap, arith}
use Rattle.std.specs.FinMap as maps
use Rattle.wasi_host.specs.Tree.{next_of}
use Rattle.wasi_tree.specs.StoredTree.{stored_node, with_names}
use Rattle.wasi_overlay.proofs.Contents.{one_told}
use Rattle.wasi_overlay.proofs.over_store.OverStore.copy_inodes.Goals as goal

pub loop-n-preserved : goal.loop-n-preserved
loop-n-preserved c = one_told stored_node (with_names maps.empty) c.args.self.now.tree c.loop-n.n _ _
    (omega (arith, c.loop-n-test.true, c.count-n-end.ensures)) c.loop-n.invariant c.in_ok-copy_inode.ensures c.in_ok-push.ensures.items

pub returns : goal.returns
returns c =
    let past : next_of c.args.self.now.tree ≤ c.loop-n.n = omega (arith, c.loop-n-test.false, c.count-n-end.ensures) in
    c.loop-n.invariant ∙ ap (map (with_names maps.empty)) (take_all c.loop-n.n c.args.self.now.tree.nodes past)
