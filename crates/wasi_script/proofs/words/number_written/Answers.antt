use Rattle.std.proofs.Common.{◌∙◌, sym}
use Rattle.wasi_script.proofs.Numerals.{read, not_read, within}
use Rattle.wasi_script.proofs.words.number_written.Goals as goal

pub returns-then-not-is_number-clause-number : goal.returns-then-not-is_number-clause-number
returns-then-not-is_number-clause-number c =
    not_read _ (rw c.as_bytes.ensures.value at (sym c.is_number.ensures ∙ c.if-not-is_number.true))

pub returns-clause-number : goal.returns-clause-number
returns-clause-number c =
    let is = rw c.as_bytes.ensures.value at (sym c.is_number.ensures ∙ c.if-not-is_number.false) in
    c.ok.ensures.value ∙ read c.args.word.now _ is c.parse.ensures.value.0

pub returns-clause-within : goal.returns-clause-within
returns-clause-within c =
    let is = rw c.as_bytes.ensures.value at (sym c.is_number.ensures ∙ c.if-not-is_number.false) in
    rw (c.ok.ensures.value, read c.args.word.now _ is c.parse.ensures.value.0) (within c.args.word.now is)
