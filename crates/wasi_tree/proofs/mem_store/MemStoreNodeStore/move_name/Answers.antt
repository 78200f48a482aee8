use Rattle.std.proofs.Common.{refl, sym, subst}
use Rattle.wasi_paths.specs.Name.{name_bytes}
use Rattle.wasi_tree.specs.Move.{IsMove}
use Rattle.wasi_tree.specs.TouchedTree.{Parented}
use Rattle.wasi_tree.proofs.RenameKept.{kept_moved}
use Rattle.wasi_tree.proofs.mem_store.MemStoreNodeStore.move_name.Goals as goal

pub invariant_of-self-2 : goal.invariant_of-self-2
invariant_of-self-2 c =
    let moves = subst (λ (s : Parented). IsMove s.tree c.args.old (name_bytes c.args.old_name) c.args.new
    (name_bytes c.args.new_name) c.args.node c.args.there) (sym c.self.view_is) c.requires.may in
    kept_moved moves c.in_ok-move_name.ensures.moved c.self.invariant refl c.in_ok-move_name.ensures.count
    c.replace.ensures
