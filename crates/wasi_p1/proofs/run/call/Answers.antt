use Rattle.wasi_p1_model.proofs.Apart.{turn_appends}
use Rattle.wasi_p1_model.proofs.ErrorNumbers.{turn_errnos}
use Rattle.wasi_p1_model.proofs.Permitting.{turn_adds}
use Rattle.wasi_p1_model.proofs.Unchanged.{leaves_all}
use Rattle.wasi_p1.proofs.Spending.{turn_writes}
use Rattle.wasi_p1.proofs.run.call.Goals as goal

pub returns-clause-errnos : goal.returns-clause-errnos
returns-clause-errnos g c = λ modelled. turn_errnos c.by_name.result (c.by_name.ensures.spec.turn modelled)

pub returns-clause-unchanged : goal.returns-clause-unchanged
returns-clause-unchanged g c = leaves_all c.by_name.result c.by_name.ensures.spec

pub returns-clause-adds : goal.returns-clause-adds
returns-clause-adds g c = λ modelled. turn_adds (c.by_name.ensures.spec.turn modelled)

pub returns-clause-appends : goal.returns-clause-appends
returns-clause-appends g c = λ modelled. turn_appends (c.by_name.ensures.spec.turn modelled)

pub returns-clause-writes : goal.returns-clause-writes
returns-clause-writes g c = λ modelled. turn_writes (c.by_name.ensures.spec.turn modelled)
