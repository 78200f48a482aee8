use Rattle.std.proofs.Common.{refl, sym, ◌∙◌}
use Rattle.wasi_p1_types.specs.SpecParts.{room_for}
use Rattle.wasi_p1_model.proofs.GuestSlots.{live_guests}
use Rattle.wasi_p1_state.proofs.lookups.room_at.Goals as goal

pub returns-then-not-fits-clause-specified : goal.returns-then-not-fits-clause-specified
unfolding room_for
returns-then-not-fits-clause-specified g c =
    rw (live_guests _ c.args.descriptors.now.slots, sym c.fits.ensures ∙ c.if-not-fits.true) refl

pub returns-clause-specified : goal.returns-clause-specified
unfolding room_for
returns-clause-specified g c =
    rw (live_guests _ c.args.descriptors.now.slots, sym c.fits.ensures ∙ c.if-not-fits.false) refl
