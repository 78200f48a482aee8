use Rattle.std.proofs.Common.{map, sym, arith}
use Rattle.std.proofs.lemmas.List.{length-map}
use Rattle.wasi_tree.specs.NodeData.{node_data}
use Rattle.wasi_tree.proofs.FoundLemmas.{node_data_at}
use Rattle.wasi_tree.proofs.FitDecides.{length-counts, known_at, keeps_next, keeps_all, lowest_at}
use Rattle.wasi_tree.proofs.well_formed.check_nodes.Goals as goal

pub place_at-place-requires-clause-counted : goal.place_at-place-requires-clause-counted
place_at-place-requires-clause-counted c = omega (arith, c.loop-i-test.true, length-counts c.args.nodes.now c.args.counts.now c.requires.counts)

pub returns-then-not-branch-clause-cause : goal.returns-then-not-branch-clause-cause
returns-then-not-branch-clause-cause c =
    let at = node_data_at c.args.nodes.now c.loop-i.i c.index-nodes-i.result c.loop-i-test.true c.index-nodes-i.is in
    lowest_at
    (known_at (map node_data c.args.nodes.now) c.loop-i.i (node_data c.index-nodes-i.result) c.place_at-place.result c.requires.counts c.requires.found at c.place_at-place.ensures.number c.place_at-place.ensures.names c.place_at-place.ensures.found)
    (sym (length-map c.args.nodes.now node_data)) c.in_ok-is_fit.ensures.test c.if-not-branch.true c.loop-i.invariant

pub loop-i-preserved : goal.loop-i-preserved
loop-i-preserved c =
    let at = node_data_at c.args.nodes.now c.loop-i.i c.index-nodes-i.result c.loop-i-test.true c.index-nodes-i.is in
    keeps_next
    (known_at (map node_data c.args.nodes.now) c.loop-i.i (node_data c.index-nodes-i.result) c.place_at-place.result c.requires.counts c.requires.found at c.place_at-place.ensures.number c.place_at-place.ensures.names c.place_at-place.ensures.found)
    (sym (length-map c.args.nodes.now node_data)) c.in_ok-is_fit.ensures.test c.if-not-branch.false c.requires.starts c.loop-i.invariant

pub returns-clause-fit : goal.returns-clause-fit
returns-clause-fit c =
    keeps_all c.loop-i.i c.requires.starts (omega (arith, c.loop-i-test.false, length-map c.args.nodes.now node_data)) c.loop-i.invariant
