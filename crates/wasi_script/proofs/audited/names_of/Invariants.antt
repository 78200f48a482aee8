use Rattle.std.proofs.Common.{◌≡◌, map, take}
use Rattle.std.specs.String.{string_bytes}
use Rattle.wasi_form.specs.Plan.{planned_preopen}
use Rattle.wasi_script.proofs.audited.names_of.Given as goal

abbrev pub invariant-loop-preopen : goal.invariant-loop-preopen
invariant-loop-preopen l =
    map string_bytes l.names.items
    ≡ map (λ preopen. preopen.name) (map planned_preopen (take l.preopen-index l.preopens))
