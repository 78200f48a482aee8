use Rattle.std.proofs.Common.{refl, arith, ◌∙◌}
use Rattle.wasi_c.specs.Told.{no_memory}
use Rattle.wasi_c.proofs.Kept.{tells_all, tells_alone, tells_short}
use Rattle.wasi_c.proofs.life.wasi_c_kept.Goals as goal

pub returns-then-len-numbers-clause-told : goal.returns-then-len-numbers-clause-told
returns-then-len-numbers-clause-told c =
    rw c.take-held.ensures.taken (tells_short _ c.in-Ok-Some.kept _ _ _ (rw (c.deref.ensures, c.in-Ok-Some.field-0-is) at c.in-Ok-Some.ensures.kept)
    (c.len.ensures ∙ c.in-Ok-Some.kept.ok.0) (omega (arith, c.if-len-numbers.true, c.len.ensures, c.len-in-Ok-Some.ensures)))

pub returns-else-len-numbers-clause-told : goal.returns-else-len-numbers-clause-told
returns-else-len-numbers-clause-told c =
    rw c.take-held.ensures.taken (tells_all _ c.in-Ok-Some.kept _ _ _ _ (rw (c.deref.ensures, c.in-Ok-Some.field-0-is) at c.in-Ok-Some.ensures.kept)
    (c.len.ensures ∙ c.in-Ok-Some.kept.ok.0)
    (rw (c.copy_from_slice.ensures.after, c.as_slice.ensures.value, c.len-in-Ok-Some-2.ensures, c.len.ensures) refl))

pub returns-in-Ok-None-clause-told : goal.returns-in-Ok-None-clause-told
returns-in-Ok-None-clause-told c =
    rw c.take-held.ensures.taken (tells_alone _ _ _ (rw (c.deref.ensures, c.in-Ok-None.field-0-is) at c.in-Ok-None.ensures.kept))

pub returns-in-Err-clause-told : goal.returns-in-Err-clause-told
returns-in-Err-clause-told c = rw c.take-held.ensures.taken (no_memory _ refl refl)
