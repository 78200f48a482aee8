use Rattle.std.proofs.Common.{rules}
use Rattle.wasi_p1_types.specs.RawFlags.{open_how}
use Rattle.wasi_p1_types.proofs.NamedFlags.{how_is}
use Rattle.wasi_p1_types.proofs.open_with.OpenWith.of.Goals as goal

pub returns-clause-specified : goal.returns-clause-specified
unfolding open_how
returns-clause-specified c = rw (how_is _ _ _) (search rules)
