use Rattle.std.proofs.Common.{◌≡◌, ◌∙◌, ◌<◌, IfSome, sym, subst}
use Rattle.std.specs.FinMap.{get}
use Rattle.wasi_paths.specs.Name.{name_bytes}
use Rattle.wasi_host.specs.Tree.{node_at, names_of, next_of}
use Rattle.wasi_tree_index.proofs.NamesLemmas.{get-names_at}
use Rattle.wasi_tree.proofs.InodeLemmas.{IsIn, names_here, sound_at}
use Rattle.wasi_tree.proofs.StoreLemmas.{child_is, child_below}
use Rattle.wasi_tree.proofs.store.InodeStore.child.Goals as goal
use Rattle.wasi_tree.proofs.store.InodeStore.child.Goals.{After-find}

-- what was found is what the directory's names hold
held : (c : After-find) → c.find.result
    ≡ get (names_of (node_at c.args.self.now c.args.directory).content) (name_bytes c.args.name)
held c =
    let is : IsIn c.self.inside.inodes.items c.self.inside.names.names c.self.inside.limits c.self.inside.worked.nodes
    c.args.self.now c.args.directory =
    record { stands = c.self.view_is; directory = sym c.if-not-is_directory.ensures } in
    c.find.ensures ∙ sym (get-names_at c.self.inside.names.names c.args.directory c.as_str.result.now)
    ∙ (λ i. get (sym (names_here is) i) (c.as_str.ensures.text i))

pub returns-clause-found : goal.returns-clause-found
returns-clause-found c =
    held c ∙ sym (child_is c.args.self.now c.args.directory (name_bytes c.args.name) (sym c.if-is_dot.ensures.test))

pub returns-clause-below : goal.returns-clause-below
returns-clause-below c =
    subst (λ o. IfSome o (λ n. n < next_of c.args.self.now)) (sym (held c))
    (child_below (next_of c.args.self.now) (node_at c.args.self.now c.args.directory) (name_bytes c.args.name)
    ((sound_at c.self.view_is c.self.invariant).nodes c.args.directory))
