use Rattle.std.proofs.Common.{refl, arith, ◌∙◌, length, ap}
use Rattle.wasi_c.specs.ResultsTold.{all_listed, short_listed, none_listed}
use Rattle.wasi_c.proofs.results.wasi_c_entries.Goals as goal

pub returns-in_default-clause-told : goal.returns-in_default-clause-told
returns-in_default-clause-told c = rw c.take-held.ensures.taken (none_listed refl refl)

pub returns-then-len-text-clause-told : goal.returns-then-len-text-clause-told
returns-then-len-text-clause-told c =
    rw c.take-held.ensures.taken (short_listed (c.len.ensures ∙ c.in-Ok.listing.ok.0 ∙ ap length (rw c.deref.ensures at c.in-Ok.ensures))
    (omega (arith, c.if-len-text.true, c.len.ensures, c.len-2.ensures)) refl)

pub returns-clause-told : goal.returns-clause-told
returns-clause-told c =
    let listing = rw c.deref.ensures at c.in-Ok.ensures in
    rw c.take-held.ensures.taken (all_listed (c.len.ensures ∙ c.in-Ok.listing.ok.0 ∙ ap length listing)
    (rw (c.copy_from_slice.ensures.after, c.as_slice.ensures.value, c.len-3.ensures, c.len.ensures, listing) refl))
