use Rattle.std.proofs.Common.{sym, ◌∙◌}
use Rattle.wasi_overlay.specs.OverSeats.{has_mark}
use Rattle.wasi_overlay.proofs.ListLemmas.{none_listed, listed_past, listed_more}
use Rattle.wasi_overlay.proofs.seats.list_marked.Goals as goal
use Rattle.wasi_overlay.proofs.seats.list_marked.Goals.{then-is_marked+in_ok-push, else-is_marked}

pub loop-n-init : goal.loop-n-init
loop-n-init c = rw c.new-numbers.ensures.items (none_listed (has_mark c.args.mark) c.args.seats.now)

pub loop-n-preserved : goal.loop-n-preserved
loop-n-preserved c = elim c.if-is_marked.branch [
  | then-is_marked+in_ok-push w ↦ rw (w.numbers-is, w.in_ok-push.ensures.items)
      (listed_more (has_mark c.args.mark) c.args.seats.now c.loop-n.from c.in-Some.n c.loop-n.numbers.items c.loop-n.invariant
      c.in-Some.ensures.first (sym c.is_marked.ensures ∙ w.if-is_marked.true))
  | else-is_marked w ↦ rw w.numbers-is
      (listed_past (has_mark c.args.mark) c.args.seats.now c.loop-n.from c.in-Some.n c.loop-n.numbers.items c.loop-n.invariant
      c.in-Some.ensures.first (sym c.is_marked.ensures ∙ w.if-is_marked.false))
]
