use Rattle.std.proofs.Common.{true, false, sym}
use Rattle.wasi_tree.proofs.LoopLemmas.{loop_none, loop_some}
use Rattle.wasi_tree.proofs.TouchedLemmas.{none_of}
use Rattle.wasi_tree.proofs.moves.refuse_loop.Goals as goal

pub returns-in_default : goal.returns-in_default
returns-in_default g c =
    sym (loop_none _ _ _ _ _ c.requires.new (sym c.if-has_below.ensures) (none_of _ c.in_default.not-Some))

pub returns-then-has_below-2 : goal.returns-then-has_below-2
returns-then-has_below-2 g c =
    sym (loop_some _ _ _ _ _ c.requires.new true (sym c.if-has_below.ensures) c.in-Some.is (sym c.if-has_below-2.ensures))

pub returns : goal.returns
returns g c =
    sym (loop_some _ _ _ _ _ c.requires.new false (sym c.if-has_below.ensures) c.in-Some.is (sym c.if-has_below-2.ensures))
