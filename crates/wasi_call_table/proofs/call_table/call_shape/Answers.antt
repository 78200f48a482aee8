use Rattle.wasi_call_table.specs.CallTable.{call_shape}
use Rattle.wasi_call_table.proofs.call_table.call_shape.Goals as goal

pub returns : goal.returns
unfolding call_shape
returns c = c.shape_in.ensures
