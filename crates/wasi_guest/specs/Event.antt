-- The record of what came of a subscription.
use Rattle.std.specs.Prelude.{ℕ, List, ◌∷◌, ◌++◌, replicate}
use Rattle.std.specs.Int.{to_le_bytes, w16, w64}
use Rattle.wasi_guest.specs.declared.event.Event.{Event}

-- 32 bytes; what no field has is 0
abbrev pub event_bytes : Event → List ℕ
event_bytes e =
    to_le_bytes w64 e.userdata
    ++ to_le_bytes w16 e.error
    ++ e.kind
    ∷ replicate 5 0
    ++ to_le_bytes w64 e.nbytes
    ++ to_le_bytes w16 e.flags
    ++ replicate 6 0
