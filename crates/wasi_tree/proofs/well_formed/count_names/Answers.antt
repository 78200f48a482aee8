use Rattle.std.proofs.Common.{◌≡◌, length, arith}
use Rattle.wasi_tree.proofs.CountLemmas.{zeros, counted_end}
use Rattle.wasi_tree.proofs.well_formed.count_names.Goals as goal

pub returns : goal.returns
returns c =
    let start : c.in_ok-counts.counts.items ≡ zeros (length c.args.nodes.now) = c.in_ok-counts.ensures.items_if_clones_equal (λ y h. h) in
    record { counts = counted_end c.args.nodes.now c.loop-node.node-index start (omega (arith, c.loop-node-test.false)) c.loop-node.invariant }
