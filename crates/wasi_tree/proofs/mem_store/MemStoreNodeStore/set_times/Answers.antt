use Rattle.std.proofs.Common.{◌<◌, refl, sym, subst}
use Rattle.wasi_host.specs.Tree.{next_of}
use Rattle.wasi_tree.specs.TouchedTree.{Parented}
use Rattle.wasi_tree.proofs.KeptLemmas.{kept_same, names_timed}
use Rattle.wasi_tree.proofs.ParentLemmas.{SameNames}
use Rattle.wasi_tree.proofs.mem_store.MemStoreNodeStore.set_times.Goals as goal

pub invariant_of-self : goal.invariant_of-self
invariant_of-self c =
    let within = subst (λ (s : Parented). c.args.node < next_of s.tree) (sym c.self.view_is) c.requires.within in
    kept_same c.self.invariant refl
    (subst (SameNames c.self.inside.store) (sym c.set_times.ensures.set) (names_timed _ _ c.args.atime c.args.mtime within))
