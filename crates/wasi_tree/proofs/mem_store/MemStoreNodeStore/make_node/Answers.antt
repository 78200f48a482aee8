use Rattle.std.proofs.Common.{◌∙◌, ◌+◌, ◌++◌, ◌∷◌, [], Some, sym, ap, subst}
use Rattle.wasi_paths.specs.Name.{name_bytes}
use Rattle.wasi_tree.specs.Move.{MayName}
use Rattle.wasi_tree.specs.StoredTree.{stored_node}
use Rattle.wasi_tree.specs.TouchedTree.{Parented}
use Rattle.wasi_tree.proofs.KeptLemmas.{IsGrown, kept_grown}
use Rattle.wasi_tree.proofs.SoundLemmas.{no_names}
use Rattle.wasi_tree.proofs.mem_store.MemStoreNodeStore.make_node.Goals as goal

pub invariant_of-self-2 : goal.invariant_of-self-2
invariant_of-self-2 c =
    let grown : IsGrown c.self.inside.store c.make_node.new.self c.args.directory (name_bytes c.args.name) (stored_node c.args.inode) =
    record {
      may = subst (λ (s : Parented). MayName s.tree c.args.directory (name_bytes c.args.name)) (sym c.self.view_is)
          c.requires.may;
      bare = no_names (stored_node c.args.inode) c.requires.sound;
      made = c.in_ok-node.ensures.made;
    } in
    kept_grown grown c.self.invariant (c.push.ensures.count ∙ ap (λ k. k + 1) c.reserve.ensures.count)
    (c.push-2.ensures ∙ ap (λ rows. rows ++ Some c.args.directory ∷ []) c.reserve-2.ensures.same)
