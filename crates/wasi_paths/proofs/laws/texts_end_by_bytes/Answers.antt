use Rattle.wasi_paths.proofs.Tails.{texts_end_by_bytes}
use Rattle.wasi_paths.proofs.laws.texts_end_by_bytes.Goals as goal

pub returns : goal.returns
returns c = record { ends = texts_end_by_bytes }
