use Rattle.std.proofs.Common.{◌≡◌, ◌∙◌, sym, ap, arith, refl}
use Rattle.std.specs.FinMap as maps
use Rattle.wasi_paths.specs.Name.{name_bytes}
use Rattle.wasi_host.specs.Tree.{Tree, node_at, next_of}
use Rattle.wasi_host.specs.Step.{without_entry, content_changed}
use Rattle.wasi_host.proofs.Changes.{directory_within}
use Rattle.wasi_tree.specs.StoredTree.{stored_tree}
use Rattle.wasi_tree.proofs.InodeLemmas.{tree_unnamed, stored_unnamed, count_same}
use Rattle.wasi_tree.proofs.SoundLemmas.{stays_changed, no_file}
use Rattle.wasi_tree.proofs.store.InodeStore.take_name.Goals as goal
use Rattle.wasi_tree.proofs.store.InodeStore.take_name.Goals.{After-mark}

pub mark-requires : goal.mark-requires
mark-requires c = omega (
  arith,
  directory_within c.args.self.now c.args.directory c.requires,
  c.self.invariant.sound.counted ∙ ap (λ (u : Tree). next_of u) c.self.view_is,
)

-- the names without it
taken : (c : After-mark) → c.remove.new.self.names
    ≡ maps.remove c.self.inside.names.names (c.args.directory, name_bytes c.args.name)
taken c = c.remove.ensures.names
    ∙ ap (λ text. maps.remove c.self.inside.names.names (c.args.directory, text)) c.as_str.ensures.text

-- the tree with these
now : (c : After-mark) → stored_tree c.self.inside.inodes.items c.remove.new.self.names c.self.inside.limits c.mark.new.self.nodes
    ≡ content_changed c.args.self.now c.args.directory (without_entry (name_bytes c.args.name))
now c = tree_unnamed (record { stands = c.self.view_is; directory = c.requires }) (name_bytes c.args.name) (taken c) c.mark.ensures.nodes

pub invariant_of-self : goal.invariant_of-self
invariant_of-self c =
    stored_unnamed (record { stands = c.self.view_is; directory = c.requires }) (name_bytes c.args.name) (taken (goal.at.invariant_of-self c).After-mark)
    c.mark.ensures.nodes c.mark.ensures.count c.self.invariant

pub returns-clause-taken : goal.returns-clause-taken
returns-clause-taken c = now (goal.at.returns-clause-taken c).After-mark

pub returns-clause-stays : goal.returns-clause-stays
returns-clause-stays c =
    rw (now (goal.at.returns-clause-stays c).After-mark)
    (stays_changed _ _ _ _ (directory_within c.args.self.now c.args.directory c.requires)
    (sym (no_file (node_at c.args.self.now c.args.directory).content c.requires)))

pub returns-clause-count : goal.returns-clause-count
returns-clause-count c = count_same _ _ _ _ refl c.self.view_is
