use Rattle.std.proofs.Common.{map, drop}
use Rattle.std.specs.String.{string_bytes}
use Rattle.wasi_p1_types.specs.Services.{with_texts}
use Rattle.wasi_p1_types.proofs.Texts.{Left}
use Rattle.wasi_p1_types.proofs.guest_env.put_texts.Given as goal

-- the texts from here on, onto what was written so far, give the whole
abbrev pub invariant-loop-text : goal.invariant-loop-text
invariant-loop-text l = Left (map string_bytes (drop l.text-index l.texts)) l.place l.address l.memory
    (with_texts l.fn.memory (map string_bytes l.texts) l.at l.buf)
