use Rattle.std.proofs.Common.{refl}
use Rattle.wasi_tree.proofs.NewTreeLemmas.{inodes_sound}
use Rattle.wasi_tree.proofs.store.InodeStore.of.Goals as goal

pub of_stored-requires : goal.of_stored-requires
of_stored-requires c =
    inodes_sound _ _ _ _ _ _ c.fit.invariant.fit c.in_ok-inodes.ensures.nodes refl c.in_ok-inodes.ensures.below
