use Rattle.std.proofs.Common.{◌≡◌, ◌∙◌, Some, refl, ap, arith}
use Rattle.std.specs.FinMap as maps
use Rattle.std.specs.FinSet.{insert}
use Rattle.std.specs.String.{string_bytes}
use Rattle.wasi_paths.specs.Name.{name_bytes}
use Rattle.wasi_host.specs.Tree.{Tree, Nodes, next_of}
use Rattle.wasi_host.proofs.Changes.{directory_within}
use Rattle.wasi_tree.specs.StoredTree.{stored_tree}
use Rattle.wasi_tree.proofs.ExchangeLemmas.{exchanged, held_there, tree_exchanged, stored_exchanged, exchange_stays}
use Rattle.wasi_tree.proofs.InodeLemmas.{count_same}
use Rattle.wasi_tree.proofs.store.InodeStore.exchange.Goals as goal
use Rattle.wasi_tree.proofs.store.InodeStore.exchange.Goals.{After-as_str, After-mark-2}

held : (c : After-as_str) → maps.get c.self.inside.names.names (c.args.old, c.as_str.result.now) ≡ Some c.args.node
held c = ap (λ text. maps.get c.self.inside.names.names (c.args.old, text)) c.as_str.ensures.text
    ∙ held_there (record { stands = c.self.view_is; is = c.requires })

pub rename-requires : goal.rename-requires
rename-requires c = rw (held (goal.at.rename-requires c).After-as_str) refl

renamed : (c : After-mark-2) → maps.get c.self.inside.names.names (c.args.old, c.as_str.result.now) ≡ Some c.args.node
    → c.rename.new.self.names ≡ maps.insert (maps.remove c.self.inside.names.names (c.args.old, name_bytes c.args.old_name))
    (c.args.new, string_bytes c.args.new_name) c.args.node
renamed c is =
    c.rename.ensures.names c.args.node is
    ∙ ap (λ text. maps.insert (maps.remove c.self.inside.names.names (c.args.old, text))
    (c.args.new, string_bytes c.args.new_name) c.args.node) c.as_str.ensures.text

marked : (c : After-mark-2) → c.mark-2.new.self.nodes ≡ insert (insert c.self.inside.worked.nodes c.args.new) c.args.old
marked c = c.mark-2.ensures.nodes ∙ ap (λ (ns : Nodes). insert ns c.args.old) c.mark.ensures.nodes

-- the tree that the inodes and names then stand for
now : (c : After-mark-2) → maps.get c.self.inside.names.names (c.args.old, c.as_str.result.now) ≡ Some c.args.node
    → stored_tree c.self.inside.inodes.items c.rename.new.self.names c.self.inside.limits c.mark-2.new.self.nodes
    ≡ exchanged c.args.self.now c.args.old (name_bytes c.args.old_name) c.args.new (string_bytes c.args.new_name) c.args.node
now c is = tree_exchanged (record { stands = c.self.view_is; is = c.requires }) (renamed c is) (marked c)

pub mark-requires : goal.mark-requires
mark-requires c = omega (
  arith,
  directory_within c.args.self.now c.args.new c.requires.to,
  c.self.invariant.sound.counted ∙ ap (λ (u : Tree). next_of u) c.self.view_is,
)

pub mark-requires-2 : goal.mark-requires-2
mark-requires-2 c = omega (
  arith,
  c.mark.ensures.count,
  directory_within c.args.self.now c.args.old c.requires.from,
  c.self.invariant.sound.counted ∙ ap (λ (u : Tree). next_of u) c.self.view_is,
)

pub invariant_of-self : goal.invariant_of-self
invariant_of-self c =
    let at = goal.at.invariant_of-self c in
    stored_exchanged (record { stands = c.self.view_is; is = c.requires }) (renamed at.After-mark-2 (held at.After-as_str)) (marked at.After-mark-2)
    (c.mark-2.ensures.count ∙ c.mark.ensures.count) c.self.invariant

pub returns-clause-exchanged : goal.returns-clause-exchanged
returns-clause-exchanged c =
    let at = goal.at.returns-clause-exchanged c in now at.After-mark-2 (held at.After-as_str)

pub returns-clause-stays : goal.returns-clause-stays
returns-clause-stays c =
    let at = goal.at.returns-clause-stays c in
    rw (now at.After-mark-2 (held at.After-as_str)) (exchange_stays c.requires)

pub returns-clause-count : goal.returns-clause-count
returns-clause-count c = count_same _ _ _ _ refl c.self.view_is
