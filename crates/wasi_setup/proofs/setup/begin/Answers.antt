use Rattle.wasi_setup.proofs.Starts.{within_on}
use Rattle.wasi_setup.proofs.setup.begin.Goals as goal

pub begin_over-requires : goal.begin_over-requires
begin_over-requires c = record {
  within = within_on c.args.script.nodes.nodes c.args.script.nodes.limits c.args.script.session c.in_ok-tree.ensures.tree
      c.requires.within;
  none = c.in_ok-tree.ensures.live;
  untouched = c.in_ok-tree.ensures.touched;
  unasked = c.in_ok-tree.ensures.lookups;
  rising = c.requires.rising;
  quota = c.requires.quota;
}

pub returns : goal.returns
returns c = record { begins = rw c.in_ok-tree.ensures.tree at c.begin_over.ensures.begins }
