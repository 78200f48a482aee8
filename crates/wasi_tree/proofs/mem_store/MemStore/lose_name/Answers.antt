use Rattle.std.proofs.Common.{refl, sym, subst}
use Rattle.wasi_paths.specs.Name.{name_bytes}
use Rattle.wasi_tree.specs.Move.{HasName}
use Rattle.wasi_tree.specs.TouchedTree.{Parented}
use Rattle.wasi_tree.proofs.KeptLemmas.{kept_dropped}
use Rattle.wasi_tree.proofs.mem_store.MemStore.lose_name.Goals as goal

pub invariant_of-self : goal.invariant_of-self
invariant_of-self c =
    let has = subst (λ (s : Parented). HasName s.tree c.args.directory (name_bytes c.args.name) c.args.node)
    (sym c.self.view_is) c.requires in
    kept_dropped has c.drop_name.ensures.dropped c.self.invariant refl c.drop_name.ensures.count c.set.ensures
