use Rattle.std.proofs.Common.{refl, arith, ◌∙◌}
use Rattle.wasi_c.specs.Told.{in_full, short, memory_wanted}
use Rattle.wasi_c.proofs.life.wasi_c_report.Goals as goal

pub returns-in_default-clause-told : goal.returns-in_default-clause-told
returns-in_default-clause-told c = rw c.take-held.ensures.taken (memory_wanted refl refl)

pub returns-then-len-text-clause-told : goal.returns-then-len-text-clause-told
returns-then-len-text-clause-told c =
    rw c.take-held.ensures.taken (short _ (rw c.deref.ensures at c.in-Ok.ensures.tells) (c.len.ensures ∙ c.in-Ok.report.ok.0)
    (omega (arith, c.if-len-text.true, c.len.ensures, c.len-2.ensures)) refl)

pub returns-clause-told : goal.returns-clause-told
returns-clause-told c =
    rw c.take-held.ensures.taken (in_full _ (rw c.deref.ensures at c.in-Ok.ensures.tells) (c.len.ensures ∙ c.in-Ok.report.ok.0)
    (rw (c.copy_from_slice.ensures.after, c.as_slice.ensures.value, c.len-3.ensures, c.len.ensures) refl))
