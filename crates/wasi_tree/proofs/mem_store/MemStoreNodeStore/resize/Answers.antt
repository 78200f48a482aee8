use Rattle.std.proofs.Common.{◌<◌, refl, sym, subst}
use Rattle.wasi_host.specs.Tree.{next_of}
use Rattle.wasi_host.specs.Step.{with_size}
use Rattle.wasi_tree.specs.TouchedTree.{Parented}
use Rattle.wasi_tree.proofs.KeptLemmas.{kept_same, names_either, names_rewritten}
use Rattle.wasi_tree.proofs.mem_store.MemStoreNodeStore.resize.Goals as goal

pub invariant_of-self : goal.invariant_of-self
invariant_of-self c =
    let within = subst (λ (s : Parented). c.args.file < next_of s.tree) (sym c.self.view_is) c.requires.within in
    kept_same c.self.invariant refl
    (names_either c.resize.result c.resize.ensures.sized c.resize.ensures.kept (names_rewritten _ _ (with_size c.args.size) within))
