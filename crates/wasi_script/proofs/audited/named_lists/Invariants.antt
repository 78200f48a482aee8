use Rattle.std.proofs.Common.{◌≡◌, map, take}
use Rattle.std.specs.String.{string_bytes}
use Rattle.wasi_report.specs.Audit.{audited_preopen}
use Rattle.wasi_script.specs.Audited.{listed_preopens}
use Rattle.wasi_script.proofs.audited.named_lists.Given as goal

abbrev pub invariant-loop-place : goal.invariant-loop-place
invariant-loop-place l =
    map audited_preopen l.preopens.items
    ≡ listed_preopens (map string_bytes (take l.place l.names)) (take l.place l.audit.lists)
