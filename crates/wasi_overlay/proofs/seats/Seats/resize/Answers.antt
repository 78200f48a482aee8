use Rattle.std.proofs.Common.{◌≡◌, ◌∙◌, true, false, is_some, sym, ap}
use Rattle.std.proofs.lemmas.Result.{on_ok_weaker, on_err_weaker}
use Rattle.std.specs.Option.{option_copied_mut}
use Rattle.wasi_host.specs.Step.{with_size}
use Rattle.wasi_overlay.specs.OverSeats.{bytes_over, kept_changed, own_put, own_at}
use Rattle.wasi_overlay.proofs.MapLemmas.{own_changed, own_written, own_before, own_missing, entry_missing}
use Rattle.wasi_overlay.proofs.seats.Seats.resize.Goals as goal
use Rattle.wasi_overlay.proofs.seats.Seats.resize.Goals.{in-Some, in-None}

pub returns-clause-put : goal.returns-clause-put
returns-clause-put c = rw (← c.self.view_is) (elim c.match-get_mut.branch [
  | in-Some w ↦ rw w.self-inside-is
      (own_changed c.self.inside.by_number c.args.n w.in-Some.seat.now w.resize.new.self
      (sym c.get_mut.ensures.value ∙ ap option_copied_mut w.in-Some.is) w.resize.ensures.put)
  | in-None w ↦ rw w.self-inside-is
      (entry_missing c.self.inside.by_number c.args.n (kept_changed (own_put (own_at c.self.inside.by_number c.args.n)))
      (sym c.get_mut.ensures.value ∙ ap option_copied_mut w.in-None.is))
])

pub returns-clause-bytes : goal.returns-clause-bytes
returns-clause-bytes c = rw (← c.self.view_is) (elim c.match-get_mut.branch [
  | in-Some w ↦
      let there = sym c.get_mut.ensures.value ∙ ap option_copied_mut w.in-Some.is in
      let before = own_before c.self.inside.by_number c.args.n w.in-Some.seat.now there in
      rw (w.result-is, w.self-inside-is) (on_ok_weaker w.resize.result (λ made some below.
      ap (λ own. bytes_over own below) (own_written c.self.inside.by_number c.args.n w.resize.new.self)
      ∙ made (sym (ap is_some before) ∙ some) below
      ∙ ap (λ own. with_size c.args.size (bytes_over own below)) (sym before))
      w.resize.ensures.bytes)
  | in-None w ↦ rw w.result-is (λ some.
      let none = ap is_some (own_missing c.self.inside.by_number c.args.n (sym c.get_mut.ensures.value ∙ ap option_copied_mut w.in-None.is)) in
      let apart : false ≡ true = sym none ∙ some in absurd (cc))
])

pub returns-clause-same : goal.returns-clause-same
returns-clause-same c = rw (← c.self.view_is) (elim c.match-get_mut.branch [
  | in-Some w ↦
      let there = sym c.get_mut.ensures.value ∙ ap option_copied_mut w.in-Some.is in
      rw (w.result-is, w.self-inside-is) (on_err_weaker w.resize.result (λ same below.
      ap (λ own. bytes_over own below) (own_written c.self.inside.by_number c.args.n w.resize.new.self)
      ∙ same below
      ∙ ap (λ own. bytes_over own below) (sym (own_before c.self.inside.by_number c.args.n w.in-Some.seat.now there)))
      w.resize.ensures.same)
  | in-None w ↦ rw w.result-is tt
])
