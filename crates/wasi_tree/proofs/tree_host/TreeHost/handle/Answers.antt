use Rattle.std.proofs.Common.{ap, arith}
use Rattle.wasi_host.proofs.Changes.{directory_within}
use Rattle.wasi_tree.specs.TouchedTree.{Touched}
use Rattle.wasi_tree.proofs.SlotLemmas.{holds-given}
use Rattle.wasi_tree.proofs.SoundLemmas.{stays_same}
use Rattle.wasi_tree.proofs.TouchedLemmas.{held_stays}
use Rattle.wasi_tree.proofs.MemLemmas.{holds-on, path_held}
use Rattle.wasi_tree.proofs.tree_host.TreeHost.handle.Goals as goal

pub invariant_of-self-2 : goal.invariant_of-self-2
invariant_of-self-2 g c =
    let stays = stays_same _ _ (ap (λ (s : Touched). s.tree) c.in_ok-make_room.ensures.seen) in
    holds-given _ _ _ _ _ _
    (rw c.reserve.ensures.same (holds-on c.self.invariant stays c.in_ok-make_room.ensures.room))
    c.give.ensures.live c.give.ensures.held (held_stays stays (path_held _ _ (grind arith)))
    c.in_ok-make_room.ensures.made c.give.ensures.others

pub make_room-requires : goal.make_room-requires
make_room-requires g c = directory_within (g.S.NodeStore.seen c.self.inside.store).tree c.args.node (grind arith)
