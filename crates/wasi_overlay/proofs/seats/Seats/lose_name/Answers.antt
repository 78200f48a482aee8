use Rattle.std.proofs.Common.{◌∙◌, sym, ap}
use Rattle.std.specs.Option.{option_copied_mut}
use Rattle.wasi_overlay.specs.OverSeats.{kept_changed, name_less}
use Rattle.wasi_overlay.proofs.MapLemmas.{entry_changed, entry_missing}
use Rattle.wasi_overlay.proofs.seats.Seats.lose_name.Goals as goal
use Rattle.wasi_overlay.proofs.seats.Seats.lose_name.Goals.{in-Some, in_default}

pub returns : goal.returns
returns c = rw (← c.self.view_is) (elim c.match-get_mut.branch [
  | in-Some w ↦ rw w.self-inside-is
      (entry_changed c.self.inside.by_number c.args.n w.in-Some.seat.now w.lose_name.new.self (kept_changed name_less)
      (sym c.get_mut.ensures.value ∙ ap option_copied_mut w.in-Some.is) w.lose_name.ensures)
  | in_default w ↦ rw w.self-inside-is
      (entry_missing c.self.inside.by_number c.args.n (kept_changed name_less)
      (sym c.get_mut.ensures.value ∙ ap option_copied_mut w.in_default.is))
])
