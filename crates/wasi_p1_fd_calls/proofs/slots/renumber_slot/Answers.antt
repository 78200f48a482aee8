use Rattle.std.proofs.Common.{sym}
use Rattle.std.proofs.lemmas.Option.{get_or_from_slice_get, slice_get_within}
use Rattle.wasi_p1_types.specs.declared.slots.Slot.TheVariants.{Closed}
use Rattle.wasi_p1_model.proofs.Renumbering.{are_two, renumbered_itself, owns_renumbered, traced_renumbered, renumbered_stays}
use Rattle.wasi_p1_fd_calls.proofs.slots.renumber_slot.Goals as goal

pub returns-then-from-to-clause-slots : goal.returns-then-from-to-clause-slots
returns-then-from-to-clause-slots g c = sym (renumbered_itself _ _ c.if-from-to.true)

pub renumber-requires-clause-to_within : goal.renumber-requires-clause-to_within
renumber-requires-clause-to_within g c = slice_get_within _ _ _ c.requires.is

pub returns-clause-owns : goal.returns-clause-owns
returns-clause-owns g c =
    let live = rw (get_or_from_slice_get _ _ _ Closed c.requires.is) at c.renumber.ensures.live in
    let two = are_two c.requires.from_within c.requires.is c.if-from-to.false in
    rw c.renumber.ensures.slots (owns_renumbered _ two c.requires.is live c.requires.holds.owned)

pub returns-clause-provenance : goal.returns-clause-provenance
returns-clause-provenance g c =
    let two = are_two c.requires.from_within c.requires.is c.if-from-to.false in
    rw c.renumber.ensures.slots (traced_renumbered _ two c.requires.is c.renumber.ensures.logged)

pub returns-clause-stays : goal.returns-clause-stays
returns-clause-stays g c = λ modelled.
    let live = rw (get_or_from_slice_get _ _ _ Closed c.requires.is) at c.renumber.ensures.live in
    let two = are_two c.requires.from_within c.requires.is c.if-from-to.false in
    rw c.renumber.ensures.slots (renumbered_stays _ two c.requires.is live c.requires.holds.owned
    (c.renumber.ensures.modelled modelled))
