use Rattle.wasi_script.specs.Due.{whole, in_part}
use Rattle.wasi_script.proofs.program.written.Goals as goal

pub returns-then-write_all-clause-written : goal.returns-then-write_all-clause-written
returns-then-write_all-clause-written g c = whole (λ modelled. c.if-write_all.ensures.all modelled)

pub returns-else-write_all-clause-written : goal.returns-else-write_all-clause-written
returns-else-write_all-clause-written g c = in_part c.if-write_all.ensures.cause (λ modelled. c.if-write_all.ensures.front modelled)
