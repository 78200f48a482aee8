use Rattle.std.proofs.Common.{ap}
use Rattle.wasi_tree_shared.specs.Changes.{made_by_others}
use Rattle.wasi_tree_shared.proofs.shared.SharedHost.dup.Goals as goal

pub returns-clause-found : goal.returns-clause-found
returns-clause-found c = λ tells.
    rw (← c.self.view_is)
    (ap (made_by_others c.self.inside.calls c.self.inside.changes.items 0) (c.dup.ensures.found tells))
