use Rattle.std.proofs.Common.{◌∙◌, sym, ap}
use Rattle.wasi_tree_index.specs.OverNames.{overlaid}
use Rattle.wasi_tree_index.proofs.OverLemmas.{overlaid-marked, overlaid-left}
use Rattle.wasi_tree_index.proofs.over_index.strike.Goals as goal

pub returns-then-is_below : goal.returns-then-is_below
returns-then-is_below c = λ base flag. ap (overlaid base) c.set.ensures.names
    ∙ overlaid-marked base c.args.changed.now.names (c.args.directory, c.args.name.now)

pub returns : goal.returns
returns c = λ base flag. ap (overlaid base) c.remove.ensures.names
    ∙ overlaid-left base c.args.changed.now.names (c.args.directory, c.args.name.now) (sym flag ∙ c.if-is_below.false)
