use Rattle.std.proofs.Common.{◌∙◌, ◌+◌, ap, sym}
use Rattle.std.specs.FinMap.{insert}
use Rattle.wasi_audit.specs.Audits.{Stems}
use Rattle.wasi_audit.proofs.Keeping.{put_entry, first_stems-more}
use Rattle.wasi_audit.proofs.stems.Stems.new.Goals as goal

pub loop-preopen-preserved : goal.loop-preopen-preserved
loop-preopen-preserved c =
    put_entry c.loop-preopen.by_number c.insert.new.self (3 + c.from.result) c.loop-preopen.preopen c.in_ok-insert.ensures.updates
    ∙ rw c.from.ensures (ap (λ (s : Stems). insert s (3 + c.loop-preopen.preopen) c.loop-preopen.preopen) c.loop-preopen.invariant)
    ∙ sym (first_stems-more c.loop-preopen.preopen)
