use Rattle.std.proofs.Common.{◌≡◌, ◌∙◌, ◌∷◌, [], ◌++◌, ap, arith}
use Rattle.std.specs.FinMap as maps
use Rattle.std.specs.FinSet.{insert}
use Rattle.wasi_paths.specs.Name.{name_bytes}
use Rattle.wasi_host.specs.Tree.{Tree, Nodes, next_of}
use Rattle.wasi_host.specs.Step.{node_made, with_nodes}
use Rattle.wasi_host.proofs.Changes.{directory_within}
use Rattle.wasi_tree.specs.StoredTree.{stored_node, stored_tree}
use Rattle.wasi_tree.proofs.SoundLemmas.{stays_made}
use Rattle.wasi_tree.proofs.InodeLemmas.{tree_grown, stored_grown}
use Rattle.wasi_tree.proofs.store.InodeStore.make_node.Goals as goal
use Rattle.wasi_tree.proofs.store.InodeStore.make_node.Goals.{After-push}

counted : (c : After-push) → c.mark.new.self.count ≡ next_of c.args.self.now
counted c =
    c.mark.ensures.count ∙ c.reserve-3.ensures.count ∙ c.self.invariant.sound.counted
    ∙ ap (λ (u : Tree). next_of u) c.self.view_is

-- the names with one more
put : (c : After-push) → c.insert.new.self.names
    ≡ maps.insert c.self.inside.names.names (c.args.directory, name_bytes c.args.name) (next_of c.args.self.now)
put c = c.insert.ensures.names
    ∙ (λ i. maps.insert (c.reserve.ensures.names i) (c.args.directory, (c.in_ok-text.ensures.ok ∙ c.as_str.ensures.text) i) (c.count-node.ensures i))

pushed : (c : After-push) → c.push_reserved.new.self.items ≡ c.self.inside.inodes.items ++ c.args.inode ∷ []
pushed c = c.push_reserved.ensures.items ∙ ap (λ inodes. inodes ++ c.args.inode ∷ []) c.reserve-2.ensures.items

marked : (c : After-push)
    → c.push.new.self.nodes ≡ with_nodes c.args.self.now.worked (c.args.directory ∷ next_of c.args.self.now ∷ [])
marked c =
    c.push.ensures.nodes ∙ (λ i. insert (c.mark.ensures.nodes i) (counted c i))
    ∙ ap (λ (nodes : Nodes). insert (insert nodes c.args.directory) (next_of c.args.self.now))
    (c.reserve-3.ensures.nodes ∙ ap (λ (u : Tree). u.worked) c.self.view_is)

made : (c : After-push)
    → stored_tree c.push_reserved.new.self.items c.insert.new.self.names c.self.inside.limits c.push.new.self.nodes
    ≡ node_made c.args.self.now c.args.directory (name_bytes c.args.name) (stored_node c.args.inode)
made c = tree_grown (record { stands = c.self.view_is; directory = c.requires.directory }) (name_bytes c.args.name) c.args.inode
    (c.self.invariant.below.none _ (omega arith)) (pushed c) (put c) (marked c)

pub mark-requires : goal.mark-requires
mark-requires c = omega (
  arith,
  directory_within c.args.self.now c.args.directory c.requires.directory,
  c.reserve-3.ensures.count ∙ c.self.invariant.sound.counted ∙ ap (λ (u : Tree). next_of u) c.self.view_is,
)

pub invariant_of-self-2 : goal.invariant_of-self-2
invariant_of-self-2 c =
    let at = (goal.at.invariant_of-self-2 c).After-push in
    stored_grown (record { stands = c.self.view_is; directory = c.requires.directory }) (name_bytes c.args.name) c.args.inode c.requires.named c.requires.sound
    (pushed at) (put at) (marked at) (omega arith) c.self.invariant

pub returns-clause-made : goal.returns-clause-made
returns-clause-made c = made (goal.at.returns-clause-made c).After-push

pub returns-clause-stays : goal.returns-clause-stays
returns-clause-stays c =
    rw (made (goal.at.returns-clause-stays c).After-push)
    (stays_made c.args.self.now c.args.directory (name_bytes c.args.name) (stored_node c.args.inode) c.requires.directory)
