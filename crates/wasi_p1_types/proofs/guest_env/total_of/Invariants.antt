use Rattle.std.proofs.Common.{◌≡◌, ◌-◌, ◌^◌, min, map, take}
use Rattle.std.specs.String.{string_bytes}
use Rattle.wasi_p1_types.specs.Services.{total_of}
use Rattle.wasi_p1_types.proofs.guest_env.total_of.Given as goal

-- those of the texts so far
abbrev pub invariant-loop-text : goal.invariant-loop-text
invariant-loop-text l = l.total ≡ min (total_of (map string_bytes (take l.text-index l.texts))) (2 ^ 64 - 1)
