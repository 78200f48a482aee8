use Rattle.std.proofs.Common.{arith}
use Rattle.wasi_p1_state.proofs.Naming.{entry_count}
use Rattle.wasi_p1_model.proofs.OpeningInto.{slot_in_use}
use Rattle.wasi_p1_state.proofs.Viewing.{open_under, entry_under, kept_owned}
use Rattle.wasi_p1_state.proofs.descriptors.Descriptors.open.Goals as goal

pub resource_under-resource-requires : goal.resource_under-resource-requires
resource_under-resource-requires g c =
    record { live = open_under c.args.fd c.self.invariant c.self.view_is c.requires.stands }

pub open_item-requires-clause-stands : goal.open_item-requires-clause-stands
open_item-requires-clause-stands g c =
    entry_under c.args.fd c.self.invariant c.self.view_is c.requires.stands _ c.resource_under-resource.ensures.names

pub open_item-requires-clause-owned : goal.open_item-requires-clause-owned
open_item-requires-clause-owned g c = kept_owned c.self.invariant c.self.view_is c.requires.holds

pub open_item-requires-clause-fits : goal.open_item-requires-clause-fits
open_item-requires-clause-fits g c =
    let fits = rw (← c.self.view_is) at c.requires.fits in
    omega (arith, entry_count c.self.invariant, fits)

pub invariant_of-self-2 : goal.invariant_of-self-2
invariant_of-self-2 g c =
    let made = c.in_ok-item.ensures.did in
    (c.place.ensures.placed _ _ _ c.self.invariant made.1 (slot_in_use _ made.0)).kept

pub returns-clause-did : goal.returns-clause-did
returns-clause-did g c =
    let made = c.in_ok-item.ensures.did in
    let placed = c.place.ensures.placed _ _ _ c.self.invariant made.1 (slot_in_use _ made.0) in
    rw (← c.self.view_is) (made.0, (placed.number, placed.slots), made.2)
