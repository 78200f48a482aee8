use Rattle.std.proofs.Common.{rules}
use Rattle.wasi_script_gen.proofs.GenWithin.{made_within}
use Rattle.wasi_script_gen.proofs.script.gen_script.Goals as goal

pub returns-clause-within : goal.returns-clause-within
returns-clause-within c = search (rules, made_within c.args.n c.requires.few)
