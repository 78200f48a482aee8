use Rattle.std.proofs.Common.{◌≡◌, map, take}
use Rattle.std.specs.String.{string_bytes}
use Rattle.wasi_guest.specs.Services.{env_pair}
use Rattle.wasi_p1_types.specs.GuestEnvModel.{env_text}
use Rattle.wasi_p1_types.proofs.guest_env.env_texts.Given as goal

-- those of the pairs so far
abbrev pub invariant-loop-pair : goal.invariant-loop-pair
invariant-loop-pair l = map string_bytes l.texts.items ≡ map env_text (map env_pair (take l.pair-index l.env))
