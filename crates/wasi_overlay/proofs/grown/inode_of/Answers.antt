use Rattle.std.proofs.Common.{rules}
use Rattle.wasi_overlay.proofs.GrownLemmas.{grown_base}
use Rattle.wasi_overlay.proofs.grown.inode_of.Goals as goal

pub returns-then-n-count-clause-same : goal.returns-then-n-count-clause-same
returns-then-n-count-clause-same c = grown_base c.args.base.now.tree c.args.made.now c.args.n (search rules)
