-- A store over a tree in which nothing has changed.
use Rattle.std.proofs.Common.{◌≡◌, ◌≤◌, ◌<◌, ◌+◌, ℕ, suc, true, List, [], ◌∷◌, Option, length, slice_index_or, refl, sym, ap, ◌∙◌, subst, arith}
use Rattle.std.specs.FinMap as maps
use Rattle.std.specs.FinSet.{empty}
use Rattle.wasi_host.specs.Tree.{Tree, Node, Content, File, Directory, Link, node_at, next_of, stray, names_of, is_directory}
use Rattle.wasi_tree_index.specs.DirEntryKeys.{AllNames, names_at}
use Rattle.wasi_tree.specs.ParentOf.{AreParents, IsKept}
use Rattle.wasi_tree.specs.Sound.{IsSound, IsSoundNode}
use Rattle.wasi_tree.specs.StoredTree.{named_content, named_from}
use Rattle.wasi_overlay.specs.OverStore.{IsOver, OverlayParts, tree_over}

-- these parts are those of a tree, with its names and its parents, and nothing has been worked on
pub record Begun (t : Tree) (stood : List (Option ℕ)) (s : OverlayParts) (noted : List (Option ℕ)) : Type 0 where
  pub nodes : s.nodes ≡ t.nodes
  pub here : (d : ℕ) → is_directory (node_at t d).content ≡ true → names_at s.names d ≡ names_of (node_at t d).content
  pub past : (d : ℕ) → next_of t ≤ d → names_at s.names d ≡ maps.empty
  pub limits : s.limits ≡ t.limits
  pub worked : s.worked ≡ empty
  pub parents : noted ≡ stood
  pub sound : (n : ℕ) → IsSoundNode (next_of t) (node_at t n)
  pub stand : AreParents t stood

-- ---- the tree itself, where no node has been worked on

abbrev pub unworked : Tree → Tree
unworked t = record t { worked = empty }

pub sound_unworked : (t : Tree) → ((n : ℕ) → IsSoundNode (next_of t) (node_at t n)) → IsSound (unworked t) (next_of t)
unfolding node_at
sound_unworked t sound = record { nodes = sound; counted = refl }

pub stand_unworked : {t : Tree} {parents : List (Option ℕ)} → AreParents t parents → AreParents (unworked t) parents
unfolding node_at
stand_unworked stand = record {
  len = stand.len;
  within = stand.within;
  up = stand.up;
  down = stand.down;
  once = stand.once;
}

-- ---- nodes with their own names

-- a node with its own names is itself
named_self : (c : Content) (m : AllNames) (d : ℕ) → (is_directory c ≡ true → names_at m d ≡ names_of c)
    → named_content (names_at m d) c ≡ c
named_self (File bytes links) m d here = refl
named_self (Directory names gone) m d here = ap (λ ns. Directory ns gone) (here refl)
named_self (Link text links) m d here = refl

-- so a list of nodes is, each with its own
from_self : (m : AllNames) (k : ℕ) (nodes : List Node)
    → ((i : ℕ) → i < length nodes → is_directory (slice_index_or nodes i stray).content ≡ true
    → names_at m (k + i) ≡ names_of (slice_index_or nodes i stray).content) → named_from m k nodes ≡ nodes
from_self m k [] here = refl
from_self m k (node ∷ nodes) here = λ i.
    let one : Node = record node { content = named_self node.content m k (λ directory. first directory) i } in
    one ∷ from_self m (k + 1) nodes (λ j within directory. later j within directory) i
  where
    first : is_directory node.content ≡ true → names_at m k ≡ names_of node.content
    first directory = let same : k + 0 ≡ k = omega arith in
        ap (names_at m) (sym same) ∙ here 0 (omega arith) directory

    later : (j : ℕ) → j < length nodes → is_directory (slice_index_or nodes j stray).content ≡ true
        → names_at m ((k + 1) + j) ≡ names_of (slice_index_or nodes j stray).content
    later j within directory = let same : (k + 1) + j ≡ k + suc j = omega arith in
        ap (names_at m) same ∙ here (suc j) (omega arith) directory

module _ {t : Tree} {stood noted : List (Option ℕ)} {s : OverlayParts} (begun : Begun t stood s noted) where
  pub begun_tree : tree_over s ≡ unworked t
  unfolding node_at
  begun_tree = λ i. let u : Tree = record {
    nodes = (ap (named_from s.names 0) begun.nodes ∙ from_self s.names 0 t.nodes (λ k within directory.
        let same : 0 + k ≡ k = omega arith in ap (names_at s.names) same ∙ begun.here k directory)) i;
    limits = begun.limits i;
    worked = begun.worked i;
  } in u

  pub begun_over : IsOver s noted
  begun_over = record {
    sound = subst (λ (u : Tree). IsSound u (next_of u)) (sym begun_tree) (sound_unworked t begun.sound);
    below = record { none = λ d past. begun.past d (omega (arith, past, ap length begun.nodes)) };
    kept = subst (λ (u : Tree). IsKept u (next_of u) noted) (sym begun_tree)
        (record { counted = refl; stand = subst (AreParents (unworked t)) (sym begun.parents) (stand_unworked begun.stand) });
  }
