-- What holds of a context's handles between its calls.
use Rattle.std.specs.Prelude.{◌≡◌, ℕ, List, [], Option}
use Rattle.wasi_host.specs.HostLaws.{Handles}
use Rattle.wasi_p1_model.specs.Owners.{Owned}
use Rattle.wasi_p2_calls.specs.declared.context.Preopen.{Preopen}

-- each descriptor's handle is live, and no other's; and nothing but a descriptor has one
pub record HoldsHandles (live : Handles) (os : List (Option ℕ)) (preopens : List Preopen) : Type 0 where
  pub owned : Owned live os
  pub none : preopens ≡ []
