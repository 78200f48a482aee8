use Rattle.std.proofs.lemmas.Option.{get_or_from_slice_get}
use Rattle.wasi_p1_types.specs.declared.slots.Slot.TheVariants.{Closed}
use Rattle.wasi_p1_model.proofs.Owning.{owns_closed}
use Rattle.wasi_p1_model.proofs.CallTracing.{traced_closed}
use Rattle.wasi_p1_model.proofs.GuestSlots.{closed_stays}
use Rattle.wasi_p1_fd_calls.proofs.slots.close_slot.Goals as goal

pub returns-clause-owns : goal.returns-clause-owns
returns-clause-owns g c =
    let live = rw (get_or_from_slice_get _ _ _ Closed c.requires.is) at c.close.ensures.live in
    rw c.close.ensures.slots (owns_closed _ _ c.requires.is live c.requires.holds.owned)

pub returns-clause-provenance : goal.returns-clause-provenance
returns-clause-provenance g c = rw c.close.ensures.slots (traced_closed _ _ c.requires.is c.close.ensures.logged)

pub returns-clause-stays : goal.returns-clause-stays
returns-clause-stays g c = λ modelled.
    let live = rw (get_or_from_slice_get _ _ _ Closed c.requires.is) at c.close.ensures.live in
    rw c.close.ensures.slots
    (closed_stays _ _ c.requires.is live c.requires.holds.owned (c.close.ensures.modelled modelled))
