use Rattle.std.proofs.Common.{◌<◌, refl, sym, subst}
use Rattle.wasi_host.specs.Tree.{next_of}
use Rattle.wasi_host.specs.Step.{with_size}
use Rattle.wasi_tree.specs.TouchedTree.{Parented}
use Rattle.wasi_tree.proofs.KeptLemmas.{kept_same, names_rewritten}
use Rattle.wasi_tree.proofs.ParentLemmas.{SameNames}
use Rattle.wasi_tree.proofs.mem_store.MemStoreNodeStore.cut.Goals as goal

pub invariant_of-self : goal.invariant_of-self
invariant_of-self c =
    let within = subst (λ (s : Parented). c.args.file < next_of s.tree) (sym c.self.view_is) c.requires.within in
    kept_same c.self.invariant refl
    (subst (SameNames c.self.inside.store) (sym c.cut.ensures.cut) (names_rewritten _ _ (with_size 0) within))
