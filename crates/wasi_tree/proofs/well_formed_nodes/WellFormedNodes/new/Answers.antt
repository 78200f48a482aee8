use Rattle.std.proofs.Common.{◌≡◌, map, subst}
use Rattle.wasi_tree.specs.NodeData.{node_data}
use Rattle.wasi_tree.specs.WellFormed.{AreFit, name_counts}
use Rattle.wasi_tree.proofs.well_formed_nodes.WellFormedNodes.new.Goals as goal
use Rattle.wasi_tree.proofs.well_formed_nodes.WellFormedNodes.new.Goals.{In_ok-counts}

are_fit : (c : In_ok-counts) → AreFit c.args.limits (map node_data c.args.nodes.items)
are_fit c =
    subst (λ nodes. AreFit c.args.limits (map node_data nodes)) c.deref.ensures.value c.in_ok-counts.ensures.fit

pub invariant_of-result : goal.invariant_of-result
invariant_of-result c = record {
  fit = are_fit (goal.at.invariant_of-result c).In_ok-counts;
  counted = subst (λ nodes. c.in_ok-counts.counts.items ≡ name_counts (map node_data nodes)) c.deref.ensures.value c.in_ok-counts.ensures.counts;
}

pub returns-clause-fit : goal.returns-clause-fit
returns-clause-fit c = are_fit (goal.at.returns-clause-fit c).In_ok-counts
