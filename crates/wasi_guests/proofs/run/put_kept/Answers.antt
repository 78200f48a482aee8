use Rattle.std.proofs.Common.{◌∙◌, ap}
use Rattle.std.specs.FinSet.{from_list}
use Rattle.std.specs.Ordering.{nat_cmp}
use Rattle.std.proofs.lemmas.List.{take_all, take_more}
use Rattle.wasi_tree.specs.MemState.{MemState}
use Rattle.wasi_guests.proofs.JoinLemmas.{all_put, one_put, works_touched}
use Rattle.wasi_guests.proofs.run.put_kept.Goals as goal

pub loop-node-preserved : goal.loop-node-preserved
loop-node-preserved c = record {
  put = rw (take_more c.as_slice-node-items.result.now c.loop-node.node-index 0 c.loop-node-test.true)
      (one_put _ c.loop-node.invariant.put c.in_ok-put_node.ensures.put);
  count = c.put_node.ensures.count;
  rises = λ was. c.put_node.ensures.rises (c.loop-node.invariant.rises was);
}

pub returns-clause-put : goal.returns-clause-put
returns-clause-put c =
    let items = c.as_slice-node-items.result.now in
    let value = c.as_slice-node-items.ensures.value in
    let worked = c.in_ok-kept.ensures.nodes ∙ ap (λ (m : MemState). m.tree.worked) c.tree.ensures in
    let put = rw (take_all c.loop-node.node-index items c.loop-node-test.false) at c.loop-node.invariant.put in
    all_put put (ap (from_list {R = nat_cmp}) value ∙ worked)
    (works_touched c.in_ok-kept.kept.items worked (rw c.tree.ensures at c.in_ok-kept.ensures.touched))
