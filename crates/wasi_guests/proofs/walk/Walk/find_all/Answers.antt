use Rattle.std.proofs.Common.{sym, subst}
use Rattle.std.proofs.lemmas.List.{take_more}
use Rattle.wasi_guests.specs.Walk.{AreFound}
use Rattle.wasi_guests.proofs.FindLemmas.{found_then}
use Rattle.wasi_guests.proofs.walk.Walk.find_all.Goals as goal

pub loop-node-preserved : goal.loop-node-preserved
loop-node-preserved c =
    subst (λ nodes. AreFound nodes c.args.holders c.args.self.now c.find.new.self)
    (sym (take_more c.args.nodes.now c.loop-node.node-index _ c.loop-node-test.true))
    (found_then c.loop-node.invariant c.in_ok-find.ensures)
