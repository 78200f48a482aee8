use Rattle.wasi_call_table.specs.CallTable.{call_number}
use Rattle.wasi_call_table.proofs.call_table.call_number.Goals as goal

pub returns-in_default : goal.returns-in_default
unfolding call_number
returns-in_default c = c.place_in.ensures
