use Rattle.std.proofs.Common.{Some}
use Rattle.wasi_overlay.specs.declared.seat.Seat.{Seat}
use Rattle.wasi_overlay.proofs.seat.Seat.begin.Goals as goal

pub returns : goal.returns
returns c = λ n node told ended i.
    let seat : Seat = record { round = c.args.round; kept = Some (c.new.ensures n node told ended i) } in seat
