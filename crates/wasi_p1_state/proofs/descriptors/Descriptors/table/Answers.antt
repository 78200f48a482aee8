use Rattle.wasi_p1_state.proofs.Naming.{are_live}
use Rattle.wasi_p1_state.proofs.descriptors.Descriptors.table.Goals as goal

pub returns-clause-entries : goal.returns-clause-entries
returns-clause-entries c = rw (← c.self.view_is) (are_live c.self.invariant.named)
