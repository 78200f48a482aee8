use Rattle.std.proofs.Common.{◌≡◌, slice_index_or, true, refl}
use Rattle.std.specs.Option.{is_none}
use Rattle.wasi_host.specs.Tree.{stray}
use Rattle.wasi_overlay.proofs.SeatLemmas.{worked_new}
use Rattle.wasi_overlay.proofs.seat.Seat.work.Goals as goal

pub returns-then-is_none : goal.returns-then-is_none
returns-then-is_none c =
    let node = slice_index_or c.args.below.now.nodes c.args.n stray in
    let none : is_none c.args.self.now.kept ≡ true = rw (c.is_none.ensures, c.if-is_none.true) refl in
    worked_new node c.args.self.now c.new.result none
    (c.new.ensures c.args.n node c.metadata.ensures c.is_gone.ensures)
