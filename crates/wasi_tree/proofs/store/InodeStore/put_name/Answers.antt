use Rattle.std.proofs.Common.{◌≡◌, ◌∙◌, sym, ap, arith, refl}
use Rattle.std.proofs.lemmas.Bool.{eqb-false}
use Rattle.std.specs.FinMap as maps
use Rattle.wasi_paths.specs.Name.{name_bytes}
use Rattle.wasi_host.specs.Tree.{Tree, node_at, next_of}
use Rattle.wasi_host.specs.Step.{with_entry, content_changed}
use Rattle.wasi_host.proofs.Changes.{directory_within, node_at-other}
use Rattle.wasi_tree.specs.StoredTree.{stored_tree}
use Rattle.wasi_tree.proofs.InodeLemmas.{tree_named, stored_named, count_same}
use Rattle.wasi_tree.proofs.SoundLemmas.{stays_changed, no_file}
use Rattle.wasi_tree.proofs.store.InodeStore.put_name.Goals as goal
use Rattle.wasi_tree.proofs.store.InodeStore.put_name.Goals.{After-mark}

pub mark-requires : goal.mark-requires
mark-requires c = omega (
  arith,
  directory_within c.args.self.now c.args.directory c.requires.directory,
  c.self.invariant.sound.counted ∙ ap (λ (u : Tree). next_of u) c.self.view_is,
)

-- the names with one more
put : (c : After-mark) → c.insert.new.self.names
    ≡ maps.insert c.self.inside.names.names (c.args.directory, name_bytes c.args.name) c.args.node
put c = c.insert.ensures.names
    ∙ (λ i. maps.insert (c.reserve.ensures.names i) (c.args.directory, (c.in_ok-text.ensures.ok ∙ c.as_str.ensures.text) i) c.args.node)

-- the tree with them
now : (c : After-mark) → stored_tree c.self.inside.inodes.items c.insert.new.self.names c.self.inside.limits c.mark.new.self.nodes
    ≡ content_changed c.args.self.now c.args.directory (with_entry (name_bytes c.args.name) c.args.node)
now c = tree_named (record { stands = c.self.view_is; directory = c.requires.directory }) (name_bytes c.args.name) c.args.node (put c) c.mark.ensures.nodes

pub invariant_of-self-2 : goal.invariant_of-self-2
invariant_of-self-2 c =
    stored_named (record { stands = c.self.view_is; directory = c.requires.directory }) (name_bytes c.args.name) c.args.node c.requires.named c.requires.within
    (put (goal.at.invariant_of-self-2 c).After-mark) c.mark.ensures.nodes c.mark.ensures.count c.self.invariant

pub returns-clause-put : goal.returns-clause-put
returns-clause-put c = now (goal.at.returns-clause-put c).After-mark

pub returns-clause-other : goal.returns-clause-other
returns-clause-other c =
    ap (λ (u : Tree). node_at u c.args.node) (now (goal.at.returns-clause-other c).After-mark)
    ∙ node_at-other c.args.self.now c.args.directory _ _
    (directory_within c.args.self.now c.args.directory c.requires.directory) c.args.node (eqb-false _ _ c.requires.apart)

pub returns-clause-stays : goal.returns-clause-stays
returns-clause-stays c =
    rw (now (goal.at.returns-clause-stays c).After-mark)
    (stays_changed _ _ _ _ (directory_within c.args.self.now c.args.directory c.requires.directory)
    (sym (no_file (node_at c.args.self.now c.args.directory).content c.requires.directory)))

pub returns-clause-count : goal.returns-clause-count
returns-clause-count c = count_same _ _ _ _ refl c.self.view_is
