-- Every refusal but `io` leaves all as before.
use Rattle.std.proofs.Common.{ℕ, Bool, ◌≡◌, inl, inr, List, ap, Result, Ok, Err}
use Rattle.wasi_host.specs.HostLaws.{HostModel, FaultCount}
use Rattle.wasi_host.specs.declared.lookup.Lookup.{Lookup}
use Rattle.wasi_guest.specs.declared.answer.Value.{Value}
use Rattle.wasi_guest.specs.declared.call.Call.{Call}
use Rattle.wasi_guest.specs.declared.errno.Errno.TheVariants.{Io}
use Rattle.wasi_p1_model.specs.CallTransition.{FollowsSpec, Kept, KeptBut, Turns, in_model}
use Rattle.wasi_p1_types.specs.Front.{FueledCall}
use Rattle.wasi_p1_types.specs.Guest.{Guest, State}
use Rattle.wasi_p1_types.specs.Slots.{View}
use Rattle.wasi_p1_model.specs.Unchanged.{AsBefore, LeavesAll}
use Rattle.wasi_p1_types.specs.declared.error.P1Error.{P1Error}
use Rattle.wasi_p1_types.specs.declared.error.P1Error.TheVariants.{Errno}

-- the state stays
refused_stays : {rose : Type 0} {w v : HostModel} {g g' : Guest} {call : FueledCall} {e : P1Error}
    → Turns rose w v g g' call (Err e) → (e ≡ Errno Io → ⊥) → in_model v g' ≡ in_model w g
refused_stays took other = elim took.turn [
  | inl refused ↦ refused.stays
  | inr (inl wanted) ↦ wanted.stays
  | inr (inr failed) ↦ absurd (other failed.io)
]

-- and so does what is the guest's own
kept_all : {H : Type 0} {old new : View H} {before after : List ℕ} {call : Call} {e : P1Error}
    → KeptBut call e old new before after → (e ≡ Errno Io → ⊥) → Kept old new before after
kept_all kept other = record {
  slots = kept.slots;
  table_max = kept.table_max;
  holdings = elim kept.uses [ inl same ↦ same | inr counted ↦ absurd (other counted.0) ];
  memory = kept.memory;
}

pub leaves_all : {H : Type 0} {modelled : Bool} {model : H → HostModel} {faults : H → FaultCount} {lookups : H → List Lookup}
    {old new : View H} {before after : List ℕ} {call : Call} (result : Result Value P1Error)
    → FollowsSpec modelled model faults lookups old new before after call result
    → LeavesAll modelled model old new before after result
leaves_all (Ok x) does = tt
leaves_all (Err e) does = λ other. record {
  kept = kept_all does.kept other;
  tree = λ modelled. ap (λ (s : State). s.tree) (refused_stays (does.turn modelled) other);
}

-- the fuel isn't among what stays
pub any_fuel : {H : Type 0} {modelled : Bool} {model : H → HostModel} {old new : View H} {fuel : ℕ} {before after : List ℕ}
    → AsBefore modelled model (record old { fuel = fuel }) new before after → AsBefore modelled model old new before after
any_fuel all = record {
  kept = record {
    slots = all.kept.slots;
    table_max = all.kept.table_max;
    holdings = all.kept.holdings;
    memory = all.kept.memory;
  };
  tree = all.tree;
}
