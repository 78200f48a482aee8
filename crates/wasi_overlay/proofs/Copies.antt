-- A tree made of copied nodes, names and parents.
use Rattle.std.proofs.Common.{◌≡◌, ◌<◌, ◌+◌, ℕ, suc, false, nat_eq, List, [], ◌∷◌, map, length, slice_index_or, inl, inr, Option, refl, sym, ap, ◌∙◌, subst, arith}
use Rattle.std.proofs.lemmas.Bool.{cases_lt}
use Rattle.std.proofs.lemmas.Bool.Decides.{nat_tests}
use Rattle.std.proofs.lemmas.List.{length-map}
use Rattle.std.specs.FinMap as maps
use Rattle.std.specs.FinSet.{empty}
use Rattle.wasi_host.specs.Tree.{Tree, Node, Content, File, Directory, Link, node_at, next_of, stray, names_of, is_directory}
use Rattle.wasi_host.specs.declared.limits.Limits.{Limits}
use Rattle.wasi_tree_index.specs.DirEntryKeys.{AllNames, names_at}
use Rattle.wasi_tree.specs.ParentOf.{AreParents}
use Rattle.wasi_tree.specs.Sound.{IsSound}
use Rattle.wasi_tree.specs.StoredTree.{named_content, named_from, stored_node, stored_tree, with_names, AreBelow, IsStored, OtherNamesStay}
use Rattle.wasi_tree.specs.declared.inode.Inode.{Inode}
use Rattle.wasi_tree.proofs.NamedLemmas.{apart_from}
use Rattle.wasi_overlay.specs.OverStore.{HoldsNames}
use Rattle.wasi_overlay.proofs.Beginning.{sound_unworked, stand_unworked, unworked}

-- what is no directory has no names
pub no_names_of : (c : Content) → is_directory c ≡ false → names_of c ≡ maps.empty
no_names_of (File bytes links) is = refl
no_names_of (Directory names gone) is = absurd (cc)
no_names_of (Link text links) is = refl

-- names are copied of one directory more
pub one_named : {t : Tree} {d : ℕ} {old new : AllNames} → HoldsNames t d old → OtherNamesStay d old new
    → names_at new d ≡ names_of (node_at t d).content → HoldsNames t (d + 1) new
one_named {t} {d} {new = new} held stays now = record {
  here = here;
  below = record { none = λ e past. stays.same e (apart_from d e (omega (arith, past))) ∙ held.below.none e (omega (arith, past)) };
}
  where
    here : (e : ℕ) → e < d + 1 → names_at new e ≡ names_of (node_at t e).content
    here e within = elim (cases_lt e d) [
      | inl lower ↦ stays.same e (other e lower) ∙ held.here e lower
      | inr past ↦ let same : d ≡ e = omega (arith, within, past) in
          subst (λ n. names_at new n ≡ names_of (node_at t n).content) same now
    ]
      where
        other : (e : ℕ) → e < d → nat_eq d e ≡ false
        other e lower = grind (arith, nat_tests)

-- nodes with other names, each with its own again
named_again : (m : AllNames) (k : ℕ) (nodes : List Node)
    → ((i : ℕ) → i < length nodes → names_at m (k + i) ≡ names_of (slice_index_or nodes i stray).content)
    → named_from m k (map (with_names maps.empty) nodes) ≡ nodes
named_again m k [] here = refl
named_again m k (node ∷ nodes) here = λ i.
    let one : Node = record node { content = again node.content first i } in
    one ∷ named_again m (k + 1) nodes later i
  where
    again : (c : Content) → names_at m k ≡ names_of c → named_content (names_at m k) (named_content maps.empty c) ≡ c
    again (File bytes links) same = refl
    again (Directory names gone) same = ap (λ ns. Directory ns gone) same
    again (Link text links) same = refl

    first : names_at m k ≡ names_of node.content
    first = let same : k + 0 ≡ k = omega arith in ap (names_at m) (sym same) ∙ here 0 (omega arith)

    later : (i : ℕ) → i < length nodes → names_at m ((k + 1) + i) ≡ names_of (slice_index_or nodes i stray).content
    later i within = let same : (k + 1) + i ≡ k + suc i = omega arith in
        ap (names_at m) same ∙ here (suc i) (omega arith)

-- inodes, names and limits of a tree
pub record AreCopied (t : Tree) (rows : List Inode) (copies : AllNames) (most : Limits) : Type 0 where
  pub nodes : map stored_node rows ≡ map (with_names maps.empty) t.nodes
  pub names : HoldsNames t (next_of t) copies
  pub limits : most ≡ t.limits

module _ {t : Tree} {rows : List Inode} {names : AllNames} {limits : Limits} (copied : AreCopied t rows names limits) where
  pub copied_tree : stored_tree rows names limits empty ≡ unworked t
  unfolding node_at
  copied_tree = λ i.
      let u : Tree = record {
        nodes = (ap (named_from names 0) copied.nodes ∙ named_again names 0 t.nodes (λ k within.
            let same : 0 + k ≡ k = omega arith in ap (names_at names) same ∙ copied.names.here k within)) i;
        limits = copied.limits i;
        worked = empty;
      } in u

  count : length rows ≡ next_of t
  count = sym (length-map rows stored_node) ∙ ap length copied.nodes ∙ length-map t.nodes (with_names maps.empty)

  pub copied_stored : IsSound t (next_of t) → IsStored rows names limits empty (length rows)
  copied_stored sound = record {
    sound = subst (λ (u : Tree). IsSound u (length rows)) (sym copied_tree)
        (subst (IsSound (unworked t)) (sym count) (sound_unworked t sound.nodes));
    below = subst (AreBelow names) (sym count) copied.names.below;
  }

  pub copied_stand : {parents : List (Option ℕ)} → AreParents t parents → AreParents (stored_tree rows names limits empty) parents
  copied_stand {parents} stand = subst (λ (u : Tree). AreParents u parents) (sym copied_tree) (stand_unworked stand)
