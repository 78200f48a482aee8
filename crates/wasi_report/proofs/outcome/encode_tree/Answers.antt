use Rattle.std.proofs.Common.{◌∙◌, subst, take_all}
use Rattle.std.proofs.lemmas.List.Elements.{All-map, All-more}
use Rattle.std.proofs.lemmas.Result.{on_ok_weaker}
use Rattle.wasi_host.specs.Tree.{node_at, stray}
use Rattle.wasi_tree.specs.NodeData.{data_of_node}
use Rattle.wasi_report.specs.ReadBack.{FitsNode}
use Rattle.wasi_report.specs.Report.{node_value}
use Rattle.wasi_report.proofs.Encoding.{seen_next}
use Rattle.wasi_report.proofs.outcome.encode_tree.Goals as goal

pub loop-n-preserved : goal.loop-n-preserved
unfolding node_at
loop-n-preserved g c =
    let within = rw c.next-n-end.ensures.next at c.loop-n-test.true in
    let shown = rw (← c.names.ensures.names) at c.in-Some.ensures.node.node_data in
    record {
      before = c.in_ok-encode_node.ensures.before ∙ c.loop-n.invariant.before;
      tokens =
          seen_next node_value data_of_node _ _ stray _ _ _ _ c.loop-n.invariant.tokens within shown
          c.in_ok-encode_node.ensures.tokens;
      fits =
          All-more (λ node. FitsNode (data_of_node node)) _ _ stray within c.loop-n.invariant.fits
          (subst FitsNode shown c.in_ok-encode_node.ensures.fits);
    }

pub returns-clause-fits : goal.returns-clause-fits
returns-clause-fits g c =
    let none_left = rw c.next-n-end.ensures.next at c.loop-n-test.false in
    let encoded_all = rw (take_all _ _ none_left) at c.loop-n.invariant.fits in
    on_ok_weaker c.end_array.result (λ _. All-map FitsNode data_of_node _ encoded_all) c.end_array.ensures.ok
