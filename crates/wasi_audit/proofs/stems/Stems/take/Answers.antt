use Rattle.wasi_audit.proofs.Keeping.{take_entry}
use Rattle.wasi_audit.proofs.stems.Stems.take.Goals as goal

pub returns : goal.returns
returns c = rw (← c.self.view_is, ← c.from.ensures) (take_entry c.self.inside.by_number c.remove.new.self c.from.result c.remove.ensures.updates)
