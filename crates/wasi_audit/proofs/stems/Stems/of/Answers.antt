use Rattle.std.proofs.Common.{◌∙◌, sym}
use Rattle.wasi_audit.proofs.Keeping.{get_entry}
use Rattle.wasi_audit.proofs.stems.Stems.of.Goals as goal

pub returns : goal.returns
returns c = rw (← c.self.view_is, ← c.from.ensures) (c.copied.ensures ∙ c.get.ensures.value ∙ sym (get_entry c.self.inside.by_number c.from.result))
