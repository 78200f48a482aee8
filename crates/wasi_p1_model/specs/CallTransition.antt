-- What a call of the context does.
use Rattle.std.specs.Prelude.{ℕ, ◌≡◌, ◌≤◌, ◌⊎◌, Bool, true, false, IsTrue, List, [], length, slice_get, Contains, Some, Result, Ok, Err, IfErr, is_ok, if◌then◌else◌}
use Rattle.wasi_host.specs.Agree.{Touches}
use Rattle.wasi_fs.specs.declared.perms.FsPerms.{FsPerms}
use Rattle.wasi_fs.specs.declared.perms.FsPerms.TheVariants.{ReadOnly}
use Rattle.wasi_host.specs.HostLaws.{HostModel, Handles, Rose, FaultCount}
use Rattle.wasi_host.specs.declared.lookup.Lookup.{Lookup}
use Rattle.wasi_p1_types.specs.Slots.{View}
use Rattle.wasi_p1_model.specs.Owners.{handles, unowned, CallTraced, SlotsOfCall}
use Rattle.wasi_p1_types.specs.CallParts.{IsReplied, with_after, is_errno}
use Rattle.wasi_p1_types.specs.Guest.{Guest, State, perms_in, guest_of, guest_by}
use Rattle.wasi_p1_model.specs.Locality.{TouchesOnlyNear}
use Rattle.wasi_p1_types.specs.CallResult.{CallResult, Program, done, asking}
use Rattle.wasi_p1_types.specs.Front.{FueledCall, with_fuel}
use Rattle.wasi_p1_model.specs.Calls.{call_spec, turn, fuel_left, descriptors_named, may_run_out_of_memory}
use Rattle.wasi_p1_types.specs.Spending.{makes, spent}
use Rattle.wasi_p1_types.specs.GuestEnvModel.{GuestEnvModel}
use Rattle.wasi_p1_model.specs.Transition.{IsTransition, ReachesHost, come_to_by, roots_of, used_by}
use Rattle.wasi_guest.specs.declared.call.Call.{Call}
use Rattle.wasi_guest.specs.declared.errno.Errno.TheVariants.{Io}
use Rattle.wasi_p1_types.specs.declared.error.P1Error.{P1Error}
use Rattle.wasi_p1_types.specs.declared.error.P1Error.TheVariants.{Errno, Memory}
use Rattle.wasi_guest.specs.declared.answer.Value.{Value}

-- the count of faults never falls, what it is at most stays, and `io` comes only where it rose
pub record Causes {A : Type 0} (before now : FaultCount) (result : Result A P1Error) : Type 0 where
  pub later : before.count ≤ now.count
  pub most : now.most ≡ before.most
  pub io : result ≡ Err (Errno Io) → Rose before now

-- the live handles that belong to no descriptor stay
abbrev pub OthersStay : {H : Type 0} → (H → Handles) → View H → View H → Type 0
OthersStay live old new = unowned (live new.host) (handles new.slots) ≡ unowned (live old.host) (handles old.slots)

-- the lookups that a call adds begin from the descriptors that it names
abbrev pub Looks : {H : Type 0} → (H → List Lookup) → View H → View H → List ℕ → Call → Type 0
Looks lookups old new memory call = CallTraced old.slots new.slots memory call (lookups old.host) (lookups new.host)

-- of a call that asks by a handle alone, or asks nothing, there are none
abbrev pub LooksByNames : Bool → List Lookup → List Lookup → Type 0
LooksByNames true old new = Unit {0}
LooksByNames false old new = new ≡ old

-- a model and a guest, as a state
abbrev pub in_model : HostModel → Guest → State
in_model w g = record { tree = w.tree; guest = g }

-- The answer and the state are those of the call's specification. The call touches no node but those reached from where
-- its request starts, and those made; where it is answered, it touches each at which a path of it ended, and each that
-- stands under a handle by which its specification asks the host
pub record Turns (rose : Type 0) (w v : HostModel) (g g' : Guest) (call : FueledCall)
    (result : Result Value P1Error) : Type 0 where
  pub turn : IsTransition rose (ReachesHost (in_model w g) call) (used_by (in_model w g) call) (in_model w g) (in_model v g')
      result (turn (in_model w g) call)
  pub touched : Touches w.tree v.tree (roots_of (in_model w g) call)
      (if is_ok result then come_to_by (in_model w g) call else []) w.touched v.touched

-- from a context and a memory to those after it
abbrev pub Transitions : {H : Type 0} → (H → HostModel) → Type 0 → View H → View H → List ℕ → List ℕ → FueledCall
    → Result Value P1Error → Type 0
Transitions model rose old new before after call result =
    Turns rose (model old.host) (model new.host) (guest_of model old before) (guest_of model new after) call result

-- nothing changed but the fuel, and the host wasn't asked
abbrev pub Same : {H : Type 0} → View H → View H → List ℕ → List ℕ → Type 0
Same old new before after = (new ≡ record old { fuel = new.fuel }) × (after ≡ before)

-- what is the guest's own stays
pub record Kept {H : Type 0} (old new : View H) (before after : List ℕ) : Type 0 where
  pub slots : new.slots ≡ old.slots
  pub table_max : new.table_max ≡ old.table_max
  pub holdings : new.holdings ≡ old.holdings
  pub memory : after ≡ before

-- what a guest has beside its descriptors and memory stays; or, where the host failed, counts the use of the call
abbrev pub OnlyUses : Call → P1Error → GuestEnvModel → GuestEnvModel → Type 0
OnlyUses call e old new = (new ≡ old) ⊎ ((e ≡ Errno Io) × ((growth : ℕ) × (new ≡ spent (makes call) growth old)))

-- what is the guest's own stays, but for what is so counted
pub record KeptBut {H : Type 0} (call : Call) (e : P1Error) (old new : View H) (before after : List ℕ) : Type 0 where
  pub slots : new.slots ≡ old.slots
  pub table_max : new.table_max ≡ old.table_max
  pub uses : OnlyUses call e old.holdings new.holdings
  pub memory : after ≡ before

-- the host was asked nothing that it could fail at, and no lookup was made
pub record Quiet {H : Type 0} (faults : H → FaultCount) (lookups : H → List Lookup) (old new : View H) : Type 0 where
  pub failed : faults new.host ≡ faults old.host
  pub looked : lookups new.host ≡ lookups old.host

-- a specification that needs no tree: its answer and its guest, of a quiet host; or out of memory
abbrev pub IsDone : Type 0 → Type 0 → Guest → Result Value P1Error → Value × Guest → Type 0
IsDone same quiet g' (Ok x) p = (p ≡ (x, g')) × quiet
IsDone same quiet g' (Err e) p = (e ≡ Memory) × same

-- What a specification says without the tree. A refusal before it asks is the answer, and nothing changed; in the place
-- of an error number, never of a trap, memory may have been wanted. Where it asks, an answer and a guest, or a refusal,
-- are those that some reply leads to, or the host refused
abbrev pub AtFront : Type 0 → Type 0 → Guest → Result Value P1Error → CallResult (Program (Value × Guest)) → Type 0
AtFront same quiet g' result (Err e) = ((result ≡ Err e) ⊎ ((result ≡ Err Memory) × (is_errno e ≡ true))) × same
AtFront same quiet g' result (Ok (done p)) = IsDone same quiet g' result p
AtFront same quiet g' result (Ok (asking r next)) = IsReplied r next (with_after result g')

-- a descriptor that a call names is under these permissions
pub record NamesUnder (perms : FsPerms) (g : Guest) (call : Call) : Type 0 where
  pub fd : ℕ
  pub named : Contains (descriptors_named g.memory call) fd
  pub has : perms_in (slice_get g.slots fd) ≡ Some perms

-- What a call does to its guest, by its specification. Over every host: what the specification says without the tree,
-- where each handle stands for what it stood for before the call; only an answered call changes what is the guest's
-- own, but for the use that a failed one counts; descriptors stay under their numbers with their handles, but for those
-- that the call names or closes; and the fuel is what the specification leaves. Over a modelled host: the turn, which
-- leaves the tree, whatever it answers, where a descriptor that the call names is under read-only permissions, and
-- which touches nothing but what is near the call
pub record FollowsSpec {H : Type 0} (modelled : Bool) (model : H → HostModel) (faults : H → FaultCount) (lookups : H → List Lookup)
    (old new : View H) (before after : List ℕ) (call : Call) (result : Result Value P1Error) : Type 0 where
  pub size : length after ≡ length before
  pub kept : IfErr result (λ e. KeptBut call e old new before after)
  pub wants : result ≡ Err Memory → IsTrue (may_run_out_of_memory call)
  pub slots : SlotsOfCall old.slots new.slots before call
  pub fuel : new.fuel ≡ fuel_left (guest_of model old before) (with_fuel old.fuel call)
  pub front : AtFront (Same old new before after) (Quiet faults lookups old new)
      (guest_by (model old.host).held new after) result (call_spec (guest_of model old before) (with_fuel old.fuel call))
  pub turn : IsTrue modelled → Transitions model (Rose (faults old.host) (faults new.host)) old new before after
      (with_fuel old.fuel call) result
  pub permits : IsTrue modelled → NamesUnder ReadOnly (guest_of model old before) call
      → (model new.host).tree ≡ (model old.host).tree
  pub near : IsTrue modelled → TouchesOnlyNear (model old.host) (model new.host) (guest_of model old before) call

-- a call is valid where its specification answers it: no refusal holds
abbrev pub IsValidCall : State → FueledCall → Type 0
IsValidCall s call = IsTrue (is_ok (turn s call))

-- it was answered; or memory ran out, by a call that takes some
abbrev pub IsAnswered : Call → Result Value P1Error → Type 0
IsAnswered call (Ok x) = Unit {0}
IsAnswered call (Err e) = (e ≡ Memory) × IsTrue (may_run_out_of_memory call)
