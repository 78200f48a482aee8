-- A node gets a name of a directory, and another name of it goes: the tree that the inodes and names then stand for.
use Rattle.std.proofs.Common.{◌≡◌, ◌≢◌, ◌∙◌, ℕ, ◌<◌, true, List, [], ◌∷◌, Option, Some, None, slice_set, refl, sym, ap, arith}
use Rattle.std.proofs.lemmas.Bool.Decides.{nat_tests}
use Rattle.std.proofs.lemmas.List.{set_comm}
use Rattle.std.specs.Cmp.{nat_cmp_total}
use Rattle.std.specs.FinMap as maps
use Rattle.std.specs.FinSet.{insert, members, same_set, nat_cmp-IsAntisymmetric}
use Rattle.wasi_host.specs.Tree.{Tree, Node, Nodes, Names, Content, node_at, next_of, is_directory}
use Rattle.wasi_host.specs.Step.{with_nodes, with_content, with_entry, without_entry, content_changed, name_lost, name_moved_onto}
use Rattle.wasi_host.specs.declared.limits.Limits.{Limits}
use Rattle.wasi_host.proofs.Changes.{directory_within, next_of-changed, node_at-other, node_at-same}
use Rattle.wasi_tree_index.specs.DirEntryKeys.{AllNames, Key}
use Rattle.wasi_tree_index.proofs.NamesLemmas.{get-names_at, insert-remove}
use Rattle.wasi_tree.specs.Move.{IsExchange, IsMove, found_lost}
use Rattle.wasi_tree.specs.Sound.{NodesStay}
use Rattle.wasi_tree.specs.StoredTree.{stored_tree, IsStored}
use Rattle.wasi_tree.specs.declared.inode.Inode.{Inode}
use Rattle.wasi_tree.proofs.MoveLemmas.{moved_as, names_apart}
use Rattle.wasi_tree.proofs.InodeLemmas.{IsIn, names_here, tree_named, tree_unnamed, stored_named, stored_unnamed}
use Rattle.wasi_tree.proofs.SoundLemmas.{stays_changed, no_file}

-- the tree with the new name, and without the old one
abbrev pub exchanged : Tree → ℕ → List ℕ → ℕ → List ℕ → ℕ → Tree
exchanged t old old_name new new_name n =
    content_changed (content_changed t new (with_entry new_name n)) old (without_entry old_name)

-- an exchange in the tree that the inodes and names stand for
pub record Exchanges (inodes : List Inode) (m : AllNames) (limits : Limits) (worked : Nodes) (t : Tree) (old : ℕ)
    (old_name : List ℕ) (new : ℕ) (new_name : List ℕ) (n : ℕ) : Type 0 where
  pub stands : stored_tree inodes m limits worked ≡ t
  pub is : IsExchange t old old_name new new_name n

-- where the new name is put, the directory of the old one is one still
put_directory : {t : Tree} {old new n : ℕ} {old_name new_name : List ℕ} → IsExchange t old old_name new new_name n
    → is_directory (node_at (content_changed t new (with_entry new_name n)) old).content ≡ true
put_directory {t} {old} {new} {n} {new_name = new_name} is =
    node_at-same t new (with_content (node_at t new) (with_entry new_name n)) (with_nodes t.worked (new ∷ []))
    (directory_within t new is.to) (λ x. is_directory x.content) (sym is.to) old
    ∙ is.from

module _ {inodes : List Inode} {m : AllNames} {limits : Limits} {worked : Nodes} {t : Tree} {old new n : ℕ}
    {old_name new_name : List ℕ} (are : Exchanges inodes m limits worked t old old_name new new_name n) where
  -- the names hold the node under the old name
  pub held_there : maps.get m (old, old_name) ≡ Some n
  held_there =
      sym (get-names_at m old old_name)
      ∙ ap (λ (names : Names). maps.get names old_name) (sym (names_here (record { stands = are.stands; directory = are.is.from })))
      ∙ are.is.named

  keys_apart : (let a : Key = (old, old_name) in let b : Key = (new, new_name) in a ≡ b → ⊥)
  keys_apart same = are.is.names_apart (ap (λ (k : Key). k.0) same) (ap (λ (k : Key). k.1) same)

  half : IsIn inodes (maps.insert m (new, new_name) n) limits (insert worked new)
      (content_changed t new (with_entry new_name n)) old
  half = record {
    stands = tree_named (record { stands = are.stands; directory = are.is.to }) new_name n refl refl;
    directory = put_directory are.is;
  }

  module _ {names : AllNames} {now : Nodes} (renamed : names ≡ maps.insert (maps.remove m (old, old_name)) (new, new_name) n)
      (marked : now ≡ insert (insert worked new) old) where
    pub tree_exchanged : stored_tree inodes names limits now ≡ exchanged t old old_name new new_name n
    tree_exchanged = tree_unnamed half old_name (renamed ∙ insert-remove m _ _ n keys_apart) marked

    pub stored_exchanged : {marks count : ℕ} → count ≡ marks → IsStored inodes m limits worked marks
        → IsStored inodes names limits now count
    stored_exchanged same stored =
        stored_unnamed half old_name (renamed ∙ insert-remove m _ _ n keys_apart) marked same
        (stored_named (record { stands = are.stands; directory = are.is.to }) new_name n are.is.good are.is.within refl refl refl
        stored)

-- a move is such an exchange
pub exchange_of : {t : Tree} {old new n : ℕ} {old_name new_name : List ℕ} {there : Option ℕ}
    → IsMove t old old_name new new_name n there → IsExchange t old old_name new new_name n
exchange_of {t} {old} {new} {n} {old_name} {new_name} is = record {
  from = is.from;
  to = is.to;
  named = is.named;
  within = is.within;
  apart = is.apart;
  names_apart = names_apart t old new n old_name new_name is;
  good = is.good;
}

pub exchange_stays : {t : Tree} {old new n : ℕ} {old_name new_name : List ℕ} → IsExchange t old old_name new new_name n
    → NodesStay t (exchanged t old old_name new new_name n)
exchange_stays {t} {old} {new} {n} {old_name} {new_name} is =
    let more : Tree = content_changed t new (with_entry new_name n) in
    let first : NodesStay t more = stays_changed t new (with_content (node_at t new) (with_entry new_name n))
    (with_nodes t.worked (new ∷ [])) (directory_within t new is.to) (sym (no_file (node_at t new).content is.to)) in
    let second : NodesStay more (exchanged t old old_name new new_name n) =
    stays_changed more old (with_content (node_at more old) (without_entry old_name))
    (with_nodes more.worked (old ∷ [])) (directory_within more old (put_directory is))
    (sym (no_file (node_at more old).content (put_directory is))) in
    record {
      next = omega (arith, first.next, second.next);
      files = λ k within. second.files k (omega (arith, within, first.next)) ∙ first.files k within;
    }

-- of two nodes, either may change first
changes_apart : (t : Tree) (a b : ℕ) (f g : Content → Content) → a < next_of t → b < next_of t → a ≢ b
    → content_changed (content_changed t a f) b g ≡ content_changed (content_changed t b g) a f
changes_apart t a b f g first second apart =
    let fa : Node = with_content (node_at t a) f in
    let gb : Node = with_content (node_at t b) g in
    let one = node_at-other t a fa (with_nodes t.worked (a ∷ [])) first b (λ same. apart (sym same)) in
    let other = node_at-other t b gb (with_nodes t.worked (b ∷ [])) second a apart in
    let marks : with_nodes (with_nodes t.worked (a ∷ [])) (b ∷ []) ≡ with_nodes (with_nodes t.worked (b ∷ [])) (a ∷ []) =
    same_set nat_cmp_total nat_cmp-IsAntisymmetric _ _ (λ q. grind (arith, members, nat_tests)) in
    let nodes = ap (λ (x : Node). slice_set (slice_set t.nodes a fa) b (with_content x g)) one
    ∙ set_comm t.nodes a b fa gb apart
    ∙ sym (ap (λ (x : Node). slice_set (slice_set t.nodes b gb) a (with_content x f)) other) in
    λ i. let u : Tree = record { nodes = nodes i; limits = t.limits; worked = marks i } in u

-- what the new name held may lose it afterwards
pub exchange_moves : {t : Tree} {old new n : ℕ} {old_name new_name : List ℕ} (there : Option ℕ)
    → IsMove t old old_name new new_name n there
    → found_lost (exchanged t old old_name new new_name n) there ≡ name_moved_onto t old old_name new new_name n there
exchange_moves {t} {old} {new} {n} {old_name} {new_name} None is = moved_as t old new n old_name new_name None is
exchange_moves {t} {old} {new} {n} {old_name} {new_name} (Some m) is =
    let more : Tree = content_changed t new (with_entry new_name n) in
    let same : next_of more ≡ next_of t = next_of-changed t new (with_content (node_at t new) (with_entry new_name n)) (with_nodes t.worked (new ∷ [])) in
    let lost = is.lost m refl in
    changes_apart more old m (without_entry old_name) name_lost
    (omega (arith, same, directory_within t old is.from)) (omega (arith, same, lost.0)) (λ here. lost.1 (sym here))
    ∙ moved_as t old new n old_name new_name (Some m) is
