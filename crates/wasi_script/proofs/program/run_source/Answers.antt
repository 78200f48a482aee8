use Rattle.std.proofs.Common.{◌∙◌, ap, refl}
use Rattle.wasi_form.specs.Plan.{plan}
use Rattle.wasi_script.specs.Due.{refusal_line, the_outcome, the_refusal}
use Rattle.wasi_script.specs.declared.words.Task.TheVariants as tasks
use Rattle.wasi_script.proofs.KeptTrees.{keeps_tree}
use Rattle.wasi_script.proofs.Tops.{front_read, leaves_unread, no_read_fault, no_usage, may_take, write_failed, writes_due, is_due_by}
use Rattle.wasi_script.proofs.program.run_source.Goals as goal

pub returns-in-Err-Refused-clause-exact : goal.returns-in-Err-Refused-clause-exact
returns-in-Err-Refused-clause-exact g c = λ tells.
    let read = rw c.in-Err-Refused.field-0-is at (c.in-Err-Refused.ensures.read tells) in
    let was = rw c.in-Err-Refused.refusal-is at c.written.ensures.written in
    is_due_by (tasks.Script c.args.task) _ (the_refusal c.in-Err-Refused.refusal) read.0 was

pub returns-in-Err-Refused-clause-writes : goal.returns-in-Err-Refused-clause-writes
returns-in-Err-Refused-clause-writes g c = λ tells takes.
    let read = rw c.in-Err-Refused.field-0-is at (c.in-Err-Refused.ensures.read tells) in
    let line = c.refusal_line.ensures ∙ ap refusal_line c.in-Err-Refused.refusal-is in
    let was = rw c.in-Err-Refused.refusal-is at c.written.ensures.written in
    writes_due (tasks.Script c.args.task) _ (the_refusal c.in-Err-Refused.refusal) read.0 takes (c.as_bytes.ensures.value ∙ line) was

pub returns-in-Err-Refused-clause-keeps : goal.returns-in-Err-Refused-clause-keeps
returns-in-Err-Refused-clause-keeps g c = λ tells takes.
    keeps_tree _ _ _ _ _ (returns-in-Err-Refused-clause-writes g c tells takes)

pub returns-in-Ok-text_of-clause-exact : goal.returns-in-Ok-text_of-clause-exact
returns-in-Ok-text_of-clause-exact g c = λ tells.
    let read = c.in-Ok.ensures.read tells in
    is_due_by (tasks.Script c.args.task) _ (the_outcome c.args.task (plan c.in-Ok.script)) (refl, read.0) c.written-in-Ok-text_of.ensures.written

pub returns-in-Ok-text_of-clause-writes : goal.returns-in-Ok-text_of-clause-writes
returns-in-Ok-text_of-clause-writes g c = λ tells takes.
    let read = c.in-Ok.ensures.read tells in
    writes_due (tasks.Script c.args.task) _ (the_outcome c.args.task (plan c.in-Ok.script)) (refl, read.0) takes
    (rw c.as_slice.ensures.value c.in-Ok-text_of.ensures) c.written-in-Ok-text_of.ensures.written

pub returns-in-Ok-text_of-clause-keeps : goal.returns-in-Ok-text_of-clause-keeps
returns-in-Ok-text_of-clause-keeps g c = λ tells takes.
    keeps_tree _ _ _ _ _ (returns-in-Ok-text_of-clause-writes g c tells takes)

pub returns-in-Ok-text_of-clause-read_fault : goal.returns-in-Ok-text_of-clause-read_fault
returns-in-Ok-text_of-clause-read_fault g c = no_read_fault c.written-in-Ok-text_of.ensures.written

pub returns-in-Ok-text_of-clause-write_fault : goal.returns-in-Ok-text_of-clause-write_fault
returns-in-Ok-text_of-clause-write_fault g c = write_failed c.written-in-Ok-text_of.ensures.written

pub returns-in-Ok-text_of-clause-usage : goal.returns-in-Ok-text_of-clause-usage
returns-in-Ok-text_of-clause-usage g c = no_usage c.written-in-Ok-text_of.ensures.written

pub returns-in-Ok-text_of-clause-nothing : goal.returns-in-Ok-text_of-clause-nothing
returns-in-Ok-text_of-clause-nothing g c = λ modelled. may_take c.written-in-Ok-text_of.ensures.written

pub returns-in-Ok-text_of-clause-left : goal.returns-in-Ok-text_of-clause-left
returns-in-Ok-text_of-clause-left g c = λ tells.
    leaves_unread _ (c.in-Ok.ensures.read tells).1 c.written-in-Ok-text_of.ensures.written

pub returns-clause-left : goal.returns-clause-left
returns-clause-left g c = λ tells. front_read _ (c.in-Ok.ensures.read tells).1

pub returns-in-Err-Refused-clause-some : goal.returns-in-Err-Refused-clause-some
returns-in-Err-Refused-clause-some g c = λ takes.
    let (left, verdict) = rw c.in-Err-Refused.field-0-is at c.in-Err-Refused.ensures.some in
    let line = c.refusal_line.ensures ∙ ap refusal_line c.in-Err-Refused.refusal-is in
    let was = rw c.in-Err-Refused.refusal-is at c.written.ensures.written in
    (left, writes_due (tasks.Script c.args.task) left (the_refusal c.in-Err-Refused.refusal) verdict takes (c.as_bytes.ensures.value ∙ line) was)

pub returns-in-Ok-text_of-clause-some : goal.returns-in-Ok-text_of-clause-some
returns-in-Ok-text_of-clause-some g c = λ takes.
    let (left, verdict) = c.in-Ok.ensures.some in (
      left,
      writes_due (tasks.Script c.args.task) left (the_outcome c.args.task (plan c.in-Ok.script)) (refl, verdict) takes
          (rw c.as_slice.ensures.value c.in-Ok-text_of.ensures) c.written-in-Ok-text_of.ensures.written,
    )
