use Rattle.wasi_paths.proofs.OneSplit.{texts_have_one_split}
use Rattle.wasi_paths.proofs.laws.texts_have_one_split.Goals as goal

pub returns : goal.returns
returns c = record { split = texts_have_one_split }
