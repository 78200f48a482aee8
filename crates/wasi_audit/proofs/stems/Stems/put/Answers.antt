use Rattle.wasi_audit.proofs.Keeping.{put_entry}
use Rattle.wasi_audit.proofs.stems.Stems.put.Goals as goal

pub returns-in_ok-insert-in-Some-clause-ok : goal.returns-in_ok-insert-in-Some-clause-ok
returns-in_ok-insert-in-Some-clause-ok c =
    rw (c.in-Some.is, ← c.self.view_is, ← c.from.ensures)
    (put_entry c.self.inside.by_number c.insert.new.self c.from.result c.in-Some.preopen c.in_ok-insert-in-Some.ensures.updates)
