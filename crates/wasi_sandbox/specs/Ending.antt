-- How a guest's run ends.
use Rattle.std.specs.Prelude.{Option, Result, Err, None, Some}
use Rattle.wasi_guest.specs.declared.answer.Value.{Value}
use Rattle.wasi_p1_types.specs.declared.error.P1Error.{P1Error}
use Rattle.wasi_p1_types.specs.declared.error.P1Error.TheVariants.{Exit, Trap}
use Rattle.wasi_sandbox.specs.declared.guest_end.GuestEnd.{GuestEnd}
use Rattle.wasi_sandbox.specs.declared.guest_end.GuestEnd.TheVariants as ends

-- by a trap, or by itself
abbrev pub end_of : Result Value P1Error → Option GuestEnd
end_of (Err (Trap kind)) = Some (ends.Trap kind)
end_of (Err (Exit status)) = Some (ends.Exit status)
end_of result = None

-- what the call answers that ends it
abbrev pub error_of : GuestEnd → P1Error
error_of (ends.Trap kind) = Trap kind
error_of (ends.Exit status) = Exit status
