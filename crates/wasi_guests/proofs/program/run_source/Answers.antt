use Rattle.std.proofs.Common.{true, ap, refl, ◌∙◌}
use Rattle.wasi_guests.specs.GuestsDue.{the_outcome, the_refusal, refusal_line}
use Rattle.wasi_guests.specs.Status.{extent}
use Rattle.wasi_guests.specs.declared.status.GuestStatus.TheVariants.{ReadFault, Usage}
use Rattle.wasi_guests.proofs.TopLemmas.{status_due, text_due}
use Rattle.wasi_io.proofs.EndingLemmas.{no_other, write_failed, leaves_unread, may_take}
use Rattle.wasi_guests.proofs.program.run_source.Goals as goal

-- ---- what the guests come to

pub returns-in-Ok-clause-read_fault : goal.returns-in-Ok-clause-read_fault
returns-in-Ok-clause-read_fault g c = no_other ReadFault (λ due. absurd (cc)) (λ fault. absurd (cc)) c.write_under.ensures.written

pub returns-in-Ok-clause-write_fault : goal.returns-in-Ok-clause-write_fault
returns-in-Ok-clause-write_fault g c = write_failed (λ fault. absurd (cc)) c.write_under.ensures.written

pub returns-in-Ok-clause-usage : goal.returns-in-Ok-clause-usage
returns-in-Ok-clause-usage g c = no_other Usage (λ due. absurd (cc)) (λ fault. absurd (cc)) c.write_under.ensures.written

pub returns-in-Ok-clause-left : goal.returns-in-Ok-clause-left
returns-in-Ok-clause-left g c = λ tells.
    let gives = c.in-Ok.ensures.gives tells in
    leaves_unread extent refl refl _ gives.3 c.write_under.ensures.written

pub returns-in-Ok-clause-nothing : goal.returns-in-Ok-clause-nothing
returns-in-Ok-clause-nothing g c = λ modelled. may_take extent refl refl c.write_under.ensures.written

pub returns-in-Ok-clause-exact : goal.returns-in-Ok-clause-exact
returns-in-Ok-clause-exact g c = λ tells.
    let gives = c.in-Ok.ensures.gives tells in
    status_due true _ (the_outcome gives.0) gives.1 c.write_under.ensures.written

pub returns-in-Ok-clause-writes : goal.returns-in-Ok-clause-writes
returns-in-Ok-clause-writes g c = λ tells modelled.
    let gives = c.in-Ok.ensures.gives tells in
    text_due true _ (the_outcome gives.0) gives.1 c.write_under.ensures.written modelled (rw c.as_slice.ensures.value gives.2)

pub returns-in-Ok-clause-some : goal.returns-in-Ok-clause-some
returns-in-Ok-clause-some g c = λ modelled.
    let (left, rest, gives) = c.in-Ok.ensures.some in (
      left,
      text_due true left (the_outcome gives.0) gives.1 c.write_under.ensures.written modelled (rw c.as_slice.ensures.value gives.2),
    )

-- ---- a refusal

pub returns-in-Err-Refused-clause-exact : goal.returns-in-Err-Refused-clause-exact
returns-in-Err-Refused-clause-exact g c = λ tells.
    let read = rw c.in-Err-Refused.field-0-is at (c.in-Err-Refused.ensures.gives tells) in
    let was = rw c.in-Err-Refused.refusal-is at c.write_under-in-Err-Refused.ensures.written in
    status_due true _ (the_refusal c.in-Err-Refused.refusal) read.0 was

pub returns-in-Err-Refused-clause-writes : goal.returns-in-Err-Refused-clause-writes
returns-in-Err-Refused-clause-writes g c = λ tells modelled.
    let read = rw c.in-Err-Refused.field-0-is at (c.in-Err-Refused.ensures.gives tells) in
    let was = rw c.in-Err-Refused.refusal-is at c.write_under-in-Err-Refused.ensures.written in
    let line = c.refusal_line.ensures ∙ ap refusal_line c.in-Err-Refused.refusal-is in
    text_due true _ (the_refusal c.in-Err-Refused.refusal) read.0 was modelled (c.as_bytes.ensures.value ∙ line)

pub returns-in-Err-Refused-clause-some : goal.returns-in-Err-Refused-clause-some
returns-in-Err-Refused-clause-some g c = λ modelled.
    let (left, rest, read) = rw c.in-Err-Refused.field-0-is at c.in-Err-Refused.ensures.some in
    let was = rw c.in-Err-Refused.refusal-is at c.write_under-in-Err-Refused.ensures.written in
    let line = c.refusal_line.ensures ∙ ap refusal_line c.in-Err-Refused.refusal-is in
    (left, text_due true left (the_refusal c.in-Err-Refused.refusal) read.0 was modelled (c.as_bytes.ensures.value ∙ line))
