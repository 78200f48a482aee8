use Rattle.wasi_script.specs.Due.{the_line}
use Rattle.wasi_script.proofs.Tops.{ends_made, writes}
use Rattle.wasi_script.proofs.program.run_generated.Goals as goal

pub returns-clause-ends : goal.returns-clause-ends
returns-clause-ends g c = ends_made c.written.ensures.written

pub returns-clause-writes : goal.returns-clause-writes
returns-clause-writes g c = λ takes.
    writes (the_line c.args.n) takes (rw c.as_bytes.ensures.value c.in-Ok.ensures) c.written.ensures.written
