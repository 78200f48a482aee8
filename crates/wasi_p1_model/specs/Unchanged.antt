-- What a call leaves as it was.
use Rattle.std.specs.Prelude.{ℕ, ◌≡◌, Bool, IsTrue, List, Result, IfErr}
use Rattle.wasi_host.specs.HostLaws.{HostModel}
use Rattle.wasi_guest.specs.declared.answer.Value.{Value}
use Rattle.wasi_guest.specs.declared.errno.Errno.TheVariants.{Io}
use Rattle.wasi_p1_model.specs.CallTransition.{Kept}
use Rattle.wasi_p1_types.specs.Slots.{View}
use Rattle.wasi_p1_types.specs.declared.error.P1Error.{P1Error}
use Rattle.wasi_p1_types.specs.declared.error.P1Error.TheVariants.{Errno}

-- all stands as before a call but for the fuel, the host's lookups and the nodes that are touched: what is the guest's
-- own, and the tree of a host that tells it
pub record AsBefore {H : Type 0} (modelled : Bool) (model : H → HostModel) (old new : View H) (before after : List ℕ) : Type 0 where
  pub kept : Kept old new before after
  pub tree : IsTrue modelled → (model new.host).tree ≡ (model old.host).tree

-- every refusal but `io` leaves all as before, so a trap, the guest's own end and out of memory do
abbrev pub LeavesAll : {H : Type 0} → Bool → (H → HostModel) → View H → View H → List ℕ → List ℕ → Result Value P1Error → Type 0
LeavesAll modelled model old new before after result =
    IfErr result (λ e. (e ≡ Errno Io → ⊥) → AsBefore modelled model old new before after)
