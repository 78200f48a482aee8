-- What is said of each call, over a context before and after it.
use Rattle.std.specs.Prelude.{ℕ, List, Result}
use Rattle.wasi_host.specs.declared.host.Host.{Ghosts}
use Rattle.wasi_guest.specs.declared.answer.Value.{Value}
use Rattle.wasi_guest.specs.declared.call.Call.{Call}
use Rattle.wasi_p1_model.specs.CallTransition.{Causes, OthersStay, Looks, LooksByNames, FollowsSpec}
use Rattle.wasi_p1_model.specs.Calls.{looks_up}
use Rattle.wasi_p1_types.specs.Slots.{View}
use Rattle.wasi_p1_types.specs.declared.error.P1Error.{P1Error}

-- whatever its specification: the host fails only where its count of faults rises, the live handles that belong to no
-- descriptor stay, and lookups begin from the descriptors that the call names; a call without a path that lists no
-- directory makes none
pub record KeepsHostLaws {H : Type 0} (host : Ghosts H) (old new : View H) (memory : List ℕ) (call : Call)
    (result : Result Value P1Error) : Type 0 where
  pub cause : Causes (host.faults old.host) (host.faults new.host) result
  pub handles : OthersStay host.live old new
  pub provenance : Looks host.lookups old new memory call
  pub logged : LooksByNames (looks_up call) (host.lookups old.host) (host.lookups new.host)

-- from a context and a memory to those after it, by its specification
abbrev pub MeetsSpec : {H : Type 0} → Ghosts H → View H → View H → List ℕ → List ℕ → Call → Result Value P1Error
    → Type 0
MeetsSpec host old new before after call result =
    FollowsSpec host.modelled host.model host.faults host.lookups old new before after call result
