use Rattle.std.proofs.Common.{◌∙◌, ◌<◌, ◌≤◌, map, take_all, ap, arith}
use Rattle.wasi_host.specs.Tree.{next_of}
use Rattle.wasi_tree.specs.NodeData.{node_data, data_of_node}
use Rattle.wasi_overlay.specs.OverStore.{overlay_parts}
use Rattle.wasi_overlay.proofs.TreeOver.{over_next}
use Rattle.wasi_overlay.proofs.Contents.{one_told}
use Rattle.wasi_overlay.proofs.over_store.OverStoreNodeStore.to_new.Goals as goal

pub new_node-requires : goal.new_node-requires
new_node-requires c = rw (← c.self.view_is) (omega (arith, c.loop-n-test.true, c.count-n-end.ensures, over_next (overlay_parts c.self.inside.nodes c.self.inside.names c.self.inside.limits)))

pub loop-n-preserved : goal.loop-n-preserved
loop-n-preserved c =
    let within : c.loop-n.n < next_of c.args.self.now.tree = rw (← c.self.view_is)
    (omega (arith, c.loop-n-test.true, c.count-n-end.ensures, over_next (overlay_parts c.self.inside.nodes c.self.inside.names c.self.inside.limits))) in
    one_told node_data data_of_node c.args.self.now.tree c.loop-n.n
    _ _ within c.loop-n.invariant c.in_ok-new_node.ensures c.in_ok-push.ensures.items

pub returns : goal.returns
returns c =
    let past : next_of c.args.self.now.tree ≤ c.loop-n.n = rw (← c.self.view_is) (omega (arith, c.loop-n-test.false, c.count-n-end.ensures, over_next (overlay_parts c.self.inside.nodes c.self.inside.names c.self.inside.limits))) in
    c.loop-n.invariant ∙ ap (map data_of_node) (take_all c.loop-n.n c.args.self.now.tree.nodes past)
