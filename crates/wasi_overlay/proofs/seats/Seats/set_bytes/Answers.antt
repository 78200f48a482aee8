use Rattle.std.proofs.Common.{◌∙◌, sym, ap, Some}
use Rattle.std.specs.Option.{option_copied_mut}
use Rattle.wasi_overlay.specs.OverSeats.{kept_changed, own_put}
use Rattle.wasi_overlay.proofs.MapLemmas.{entry_changed, entry_missing}
use Rattle.wasi_overlay.proofs.seats.Seats.set_bytes.Goals as goal
use Rattle.wasi_overlay.proofs.seats.Seats.set_bytes.Goals.{in-Some, in_default}

pub returns : goal.returns
returns c = rw (← c.self.view_is) (elim c.match-get_mut.branch [
  | in-Some w ↦ rw w.self-inside-is
      (entry_changed c.self.inside.by_number c.args.n w.in-Some.seat.now w.set_bytes.new.self (kept_changed (own_put (Some c.args.bytes)))
      (sym c.get_mut.ensures.value ∙ ap option_copied_mut w.in-Some.is) w.set_bytes.ensures)
  | in_default w ↦ rw w.self-inside-is
      (entry_missing c.self.inside.by_number c.args.n (kept_changed (own_put (Some c.args.bytes)))
      (sym c.get_mut.ensures.value ∙ ap option_copied_mut w.in_default.is))
])
