use Rattle.std.proofs.Common.{◌∙◌, sym, ap, slice_index_or}
use Rattle.std.specs.Option.{option_copied_mut}
use Rattle.wasi_host.specs.Tree.{stray}
use Rattle.wasi_overlay.specs.OverSeats.{worked_on}
use Rattle.wasi_overlay.proofs.MapLemmas.{entry_changed, entry_missing}
use Rattle.wasi_overlay.proofs.seats.Seats.work.Goals as goal
use Rattle.wasi_overlay.proofs.seats.Seats.work.Goals.{in-Some, in_default}

pub returns : goal.returns
returns c = rw (← c.self.view_is) (elim c.match-get_mut.branch [
  | in-Some w ↦ rw w.self-inside-is
      (entry_changed c.self.inside.by_number c.args.n w.in-Some.seat.now w.work.new.self (worked_on (slice_index_or c.args.below.now.nodes c.args.n stray))
      (sym c.get_mut.ensures.value ∙ ap option_copied_mut w.in-Some.is) w.work.ensures)
  | in_default w ↦ rw w.self-inside-is
      (entry_missing c.self.inside.by_number c.args.n (worked_on (slice_index_or c.args.below.now.nodes c.args.n stray))
      (sym c.get_mut.ensures.value ∙ ap option_copied_mut w.in_default.is))
])
