use Rattle.wasi_form.specs.Atoms.{atom_data}
use Rattle.wasi_form.proofs.CallWords.{first_word}
use Rattle.wasi_form.proofs.arguments.Arguments.word.Goals as goal

pub returns : goal.returns
returns c = first_word c.args.kind _ _ (atom_data c.in_ok-atom.atom) c.as_word.result c.in_ok-atom.ensures c.as_word.ensures
