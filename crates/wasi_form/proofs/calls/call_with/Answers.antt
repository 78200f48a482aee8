use Rattle.std.proofs.Common.{Some, ◌∙◌}
use Rattle.wasi_form.specs.Atoms.{values_left}
use Rattle.wasi_form.proofs.CallWords.{as_words}
use Rattle.wasi_form.proofs.calls.call_with.Goals as goal

pub returns : goal.returns
returns c =
    c.call_of_words.ensures
    ∙ as_words c.args.name.now (values_left c.args.arguments) c.in_ok-number.number c.in_ok-kinds.kinds.now (Some c.in_ok-words.words)
    c.in_ok-number.ensures c.in_ok-kinds.ensures.kinds c.in_ok-words.ensures
