use Rattle.std.proofs.Common.{◌∙◌, ap}
use Rattle.wasi_tree_index.specs.OverNames.{overlaid}
use Rattle.wasi_tree_index.proofs.OverLemmas.{overlaid-none}
use Rattle.wasi_tree_index.proofs.over_index.OverNameIndex.new.Goals as goal

pub returns : goal.returns
returns c = ap (overlaid c.args.base.now.names) c.new.ensures ∙ overlaid-none c.args.base.now.names
