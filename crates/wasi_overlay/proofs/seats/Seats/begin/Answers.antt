use Rattle.std.proofs.Common.{◌∙◌, sym, ap}
use Rattle.std.specs.Option.{option_copied_mut}
use Rattle.wasi_overlay.specs.OverSeats.{begun}
use Rattle.wasi_overlay.proofs.MapLemmas.{entry_changed, entry_missing}
use Rattle.wasi_overlay.proofs.seats.Seats.begin.Goals as goal
use Rattle.wasi_overlay.proofs.seats.Seats.begin.Goals.{in-Some, in_default}

pub returns : goal.returns
returns c = λ node told ended. rw (← c.self.view_is) (elim c.match-get_mut.branch [
  | in-Some w ↦ rw w.self-inside-is
      (entry_changed c.self.inside.by_number c.args.n w.in-Some.seat.now w.begin.new.self (λ _. begun c.args.round node)
      (sym c.get_mut.ensures.value ∙ ap option_copied_mut w.in-Some.is) (w.begin.ensures c.args.n node told ended))
  | in_default w ↦ rw w.self-inside-is
      (entry_missing c.self.inside.by_number c.args.n (λ _. begun c.args.round node)
      (sym c.get_mut.ensures.value ∙ ap option_copied_mut w.in_default.is))
])
