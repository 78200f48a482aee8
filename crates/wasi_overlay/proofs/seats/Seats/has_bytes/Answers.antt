use Rattle.std.proofs.Common.{◌∙◌, is_some, sym, ap}
use Rattle.std.specs.Option.{option_copied}
use Rattle.wasi_overlay.specs.OverSeats.{kept_in, own_at, own_of}
use Rattle.wasi_overlay.proofs.seats.Seats.has_bytes.Goals as goal

pub returns-in-Some : goal.returns-in-Some
unfolding own_at
returns-in-Some c = rw (← c.self.view_is)
    (c.has_bytes.ensures ∙ ap (λ seat. is_some (own_of (kept_in seat))) (sym (ap option_copied c.in-Some.is) ∙ c.get.ensures))

pub returns-in-None : goal.returns-in-None
unfolding own_at
returns-in-None c = rw (← c.self.view_is)
    (ap (λ seat. is_some (own_of (kept_in seat))) (sym (ap option_copied c.in-None.is) ∙ c.get.ensures))
