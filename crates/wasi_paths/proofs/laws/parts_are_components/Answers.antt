use Rattle.std.proofs.Common.{refl}
use Rattle.wasi_paths.specs.Parts.{parts}
use Rattle.wasi_paths.proofs.laws.parts_are_components.Goals as goal

pub returns : goal.returns
unfolding parts
returns c = record { parts = λ text. refl }
