use Rattle.std.proofs.lemmas.Result.{IfOk-weaker}
use Rattle.wasi_setup.proofs.Starts.{within_on}
use Rattle.wasi_script.proofs.run.run.Goals as goal

pub run_over-requires : goal.run_over-requires
run_over-requires c = record {
  within = within_on c.args.script.nodes.nodes c.args.script.nodes.limits c.args.script.session c.in_ok-tree.ensures.tree
      c.requires.within;
  none = c.in_ok-tree.ensures.live;
  untouched = c.in_ok-tree.ensures.touched;
  unasked = c.in_ok-tree.ensures.lookups;
  rising = c.requires.rising;
  quota = c.requires.quota;
}

pub returns : goal.returns
returns c =
    IfOk-weaker c.run_over.result _ _ (λ ran is. is c.args.script.nodes.nodes c.args.script.nodes.limits c.in_ok-tree.ensures.tree)
    c.run_over.ensures
