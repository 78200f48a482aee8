use Rattle.std.proofs.Common.{◌≡◌, ◌∙◌, true, sym, subst}
use Rattle.wasi_host.specs.Tree.{is_directory, node_at}
use Rattle.wasi_tree.specs.TouchedTree.{Parented}
use Rattle.wasi_tree.proofs.WayLemmas.{way_is_below}
use Rattle.wasi_tree.proofs.mem_store.MemStoreNodeStore.is_below.Goals as goal

pub returns : goal.returns
returns c =
    let directory =
    subst (λ (s : Parented). is_directory (node_at s.tree c.args.directory).content ≡ true) (sym c.self.view_is)
    c.requires.directory in
    rw (← c.self.view_is) (c.is_below.ensures ∙ way_is_below c.self.invariant.stand c.args.top c.args.directory directory)
