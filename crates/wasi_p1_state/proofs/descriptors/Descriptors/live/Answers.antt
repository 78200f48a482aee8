use Rattle.std.proofs.Common.{◌∙◌}
use Rattle.wasi_p1_state.proofs.Naming.{entry_count}
use Rattle.wasi_p1_state.proofs.descriptors.Descriptors.live.Goals as goal

pub returns-clause-count : goal.returns-clause-count
returns-clause-count c = rw (← c.self.view_is) (c.live.ensures.count ∙ entry_count c.self.invariant)
