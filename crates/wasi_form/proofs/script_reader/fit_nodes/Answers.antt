use Rattle.std.proofs.Common.{refl}
use Rattle.wasi_form.proofs.script_reader.fit_nodes.Goals as goal

pub returns-in-Err-Invalid : goal.returns-in-Err-Invalid
returns-in-Err-Invalid c =
    let lowest = rw c.in-Err-Invalid.field-0-is at c.in-Err-Invalid.ensures.cause in
    (refl, λ fit. lowest.breaks (fit _))
