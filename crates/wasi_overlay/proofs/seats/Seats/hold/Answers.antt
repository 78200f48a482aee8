use Rattle.std.proofs.Common.{◌∙◌, sym, ap, is_some}
use Rattle.std.specs.FinMap as maps
use Rattle.wasi_overlay.specs.OverSeats.{SeatMap}
use Rattle.wasi_overlay.proofs.HoldLemmas.{added_old, added_new}
use Rattle.wasi_overlay.proofs.seats.Seats.hold.Goals as goal

pub returns-then-has-clause-held : goal.returns-then-has-clause-held
returns-then-has-clause-held c = added_old c.args.self.now c.args.n (sym c.has.ensures ∙ c.if-has.true)

pub returns-clause-held : goal.returns-clause-held
returns-clause-held c = rw (← c.self.view_is)
    (c.in_ok-insert.ensures.put ∙ ap (maps.insert c.self.inside.by_number c.args.n) c.blank.ensures
    ∙ added_new c.self.inside.by_number c.args.n (ap (λ (m : SeatMap). is_some (maps.get m c.args.n)) c.self.view_is ∙ sym c.has.ensures ∙ c.if-has.false))
