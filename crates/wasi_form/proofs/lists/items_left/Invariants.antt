use Rattle.std.proofs.Common.{length}
use Rattle.wasi_form.specs.Lists.{items_all, list_seen}
use Rattle.wasi_form.proofs.Grammar.{ItemsLeft}
use Rattle.wasi_form.proofs.Items.{after}
use Rattle.wasi_form.proofs.lists.items_left.Given as goal

abbrev pub invariant-items : goal.invariant-items
invariant-items g l =
    ItemsLeft l.depth (items_all g.T.Item.of) (λ ds. after (list_seen g.T.Item.see l.found) (items_all g.T.Item.of ds))
    l.initial.reader l.reader

abbrev pub decreases-items : goal.decreases-items
decreases-items g l = length l.reader
