use Rattle.std.proofs.Common.{◌≤◌, length, arith, rules}
use Rattle.std.proofs.lemmas.Grind.{common_steps}
use Rattle.wasi_call_table.specs.CallTable.{call_rows}
use Rattle.wasi_call_table.proofs.TableLemmas.{no_call}
use Rattle.wasi_call_table.proofs.call_table.call_of_words.Goals as goal

-- the number is none of the calls'
pub returns-in_default : goal.returns-in_default
returns-in_default c =
    let past : length call_rows ≤ c.args.number = first_of (omega (arith, c.in_default), search rules, grind (arith, common_steps, c.in_default)) in
    no_call c.args.number c.args.words.now past
