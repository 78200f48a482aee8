use Rattle.wasi_paths.proofs.PlainNames.{names_plain}
use Rattle.wasi_paths.proofs.laws.names_are_plain.Goals as goal

pub returns : goal.returns
returns c = record { plain = names_plain }
