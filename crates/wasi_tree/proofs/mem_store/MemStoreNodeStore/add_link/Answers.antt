use Rattle.std.proofs.Common.{sym, subst}
use Rattle.wasi_paths.specs.Name.{name_bytes}
use Rattle.wasi_tree.specs.Move.{MayGain}
use Rattle.wasi_tree.specs.TouchedTree.{Parented}
use Rattle.wasi_tree.proofs.KeptLemmas.{linked_either}
use Rattle.wasi_tree.proofs.mem_store.MemStoreNodeStore.add_link.Goals as goal

pub invariant_of-self : goal.invariant_of-self
invariant_of-self c =
    let gains = subst (λ (s : Parented). MayGain s.tree c.args.directory (name_bytes c.args.name) c.args.node)
    (sym c.self.view_is) c.requires.may in
    linked_either gains c.add_link.result c.add_link.ensures.added c.add_link.ensures.kept c.self.invariant
    c.add_link.ensures.count
