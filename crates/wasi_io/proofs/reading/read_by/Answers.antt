use Rattle.std.proofs.Common.{arith, ◌<◌, ◌≤◌, length}
use Rattle.std.proofs.lemmas.Grind.{common_steps}
use Rattle.wasi_io.specs.declared.reading.TheConstants.{MOST_BYTES}
use Rattle.wasi_io.proofs.Fronts.{too_long, read_on}
use Rattle.wasi_io.proofs.reading.read_by.Goals as goal

pub returns-clause-bytes : goal.returns-clause-bytes
returns-clause-bytes g c modelled =
    let over : MOST_BYTES < length c.loop-all.all.items = omega arith in
    too_long _ _ _ MOST_BYTES (c.loop-all.invariant.left modelled) over c.loop-all.invariant.short

pub returns-then-is_err-clause-bytes : goal.returns-then-is_err-clause-bytes
returns-then-is_err-clause-bytes g c modelled =
    let fits : c.in-Ok-read.count ≤ c.min-want.result = grind (arith, common_steps) in
    read_on c.loop-all.all.items (c.loop-all.invariant.left modelled) (c.in-Ok-read.ensures.bytes modelled) (omega arith)
