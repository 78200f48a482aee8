use Rattle.std.proofs.Common.{◌≡◌, map, length, sym, ap, subst, arith, rules}
use Rattle.std.proofs.lemmas.Grind.{common_steps}
use Rattle.std.specs.Vec.Iter.{into_iter_items}
use Rattle.wasi_tree.specs.NodeData.{node_data}
use Rattle.wasi_tree.proofs.NewTreeLemmas.{AreInodes, no_inode, next_count, inode_more}
use Rattle.wasi_tree.proofs.store.inodes_of.Goals as goal

pub bounds-counts-number : goal.bounds-counts-number
bounds-counts-number c =
    let number : c.len-number.result ≡ length c.loop-node.inodes.items = grind (arith, common_steps) in
    (next_count number c.requires.counts (ap (map node_data) c.in-Some.ensures.steps.0) c.loop-node.invariant).0

pub loop-node-preserved : goal.loop-node-preserved
loop-node-preserved c =
    let number : c.len-number.result ≡ length c.loop-node.inodes.items = grind (arith, common_steps) in
    let next = ap (map node_data) c.in-Some.ensures.steps.0 in
    let count = next_count number c.requires.counts next c.loop-node.invariant in
    inode_more c.in_ok-inode.inode number c.in_ok-push.ensures.items (c.in_ok-inode.ensures.inode (map node_data c.args.nodes.items) (sym count.1)) c.in_ok-inode.ensures.others next
    c.loop-node.invariant

pub loop-node-init : goal.loop-node-init
loop-node-init c =
    let all : into_iter_items c.into_iter-node-iterator.result ≡ c.args.nodes.items = search rules in
    subst (λ nodes. AreInodes (map node_data c.args.nodes.items) c.in_ok-inodes.inodes.items c.args.names.now.names (map node_data nodes))
    (sym all) (no_inode (map node_data c.args.nodes.items) c.in_ok-inodes.inodes.items c.args.names.now.names (search rules) c.requires.none)
