-- Where directories stand after a name has moved.
use Rattle.std.proofs.Common.{◌≡◌, ◌≢◌, ℕ, ◌<◌, true, List, length, slice_set, Option, Some, None, refl, sym, ap, ◌∙◌, subst, arith}
use Rattle.std.proofs.lemmas.Bool.{ne_eqb}
use Rattle.std.proofs.lemmas.List.{length-set, get_or-set_same, get_or-set_other}
use Rattle.wasi_host.specs.Tree.{Tree, node_at, next_of, is_directory}
use Rattle.wasi_host.specs.Step.{without_name, name_lost, name_moved, name_moved_onto}
use Rattle.wasi_host.proofs.Changes.{changed, next_of-changed}
use Rattle.wasi_tree.specs.ParentOf.{named_at, AreParents, IsKept, without_parent}
use Rattle.wasi_tree.specs.Move.{HasName, IsMove}
use Rattle.wasi_tree.proofs.KeptLemmas.{dropped_names, dropped_kinds, parents_dropped}
use Rattle.wasi_tree.proofs.ParentLemmas.{Places, taken_before, taken_still, taken_none, taken_kinds, taken_nowhere, parents_taken, parents_put}
use Rattle.wasi_tree.proofs.SoundLemmas.{seen-name_lost}
use Rattle.wasi_tree.proofs.TouchedLemmas.{none_of}

-- ---- onto a name that holds nothing

-- a name of a directory holds the node, and another name nothing
pub record IsOpen (t : Tree) (old : ℕ) (old_name : List ℕ) (new : ℕ) (new_name : List ℕ) (n : ℕ) : Type 0 where
  pub from : is_directory (node_at t old).content ≡ true
  pub to : is_directory (node_at t new).content ≡ true
  pub named : named_at t old old_name ≡ Some n
  pub missing : named_at t new new_name ≡ None

module _ {t : Tree} {old new n : ℕ} {old_name new_name : List ℕ} {parents : List (Option ℕ)}
    (is : IsOpen t old old_name new new_name n) (are : AreParents t parents) where
  abbrev half : Tree
  half = changed t old (without_name (node_at t old) old_name) t.worked

  abbrev moved : Tree
  moved = name_moved t old old_name new new_name n

  half_missing : named_at half new new_name ≡ None
  half_missing = none_of (named_at half new new_name) (λ m some.
      let was : named_at t new new_name ≡ Some m =
      taken_before t old n old_name t.worked is.from is.named new m new_name some in
      let none = is.missing in
      let nothing : ⊥ = absurd (cc) in
      nothing)

  pub parents_moved : AreParents moved (slice_set parents n (Some new))
  parents_moved =
      let within = are.within old n old_name is.named in
      let inside : n < length parents = omega (arith, within, are.len) in
      let places : Places (slice_set parents n None) (slice_set parents n (Some new)) n (Some new) = record {
        here = get_or-set_same parents n (Some new) None inside;
        others = λ m other.
            get_or-set_other parents n m (Some new) None other
            ∙ sym (get_or-set_other parents n m None None other);
      } in
      let half_kind = taken_kinds t old n old_name t.worked is.from is.named in
      parents_put half new n new_name moved.worked (half_kind new ∙ is.to) half_missing (
        omega (arith, within, next_of-changed t old (without_name (node_at t old) old_name) t.worked),
        λ kind e q some.
            taken_nowhere t old n old_name t.worked is.from is.named are (sym (half_kind n) ∙ kind) e q some,
      )
      (parents_taken t old n old_name t.worked is.from is.named are) places
      (length-set parents n (Some new) ∙ sym (length-set parents n None))

-- ---- onto any name

module _ {t : Tree} {old new n : ℕ} {old_name new_name : List ℕ} {parents : List (Option ℕ)} (are : AreParents t parents)
  where
    parents_onto : (there : Option ℕ) → IsMove t old old_name new new_name n there
        → AreParents (name_moved_onto t old old_name new new_name n there)
        (slice_set (without_parent parents there) n (Some new))
    parents_onto None is =
        parents_moved (record { from = is.from; to = is.to; named = is.named; missing = is.onto }) are
    parents_onto (Some m) is =
        let lost = is.lost m refl in
        let has : HasName t new new_name m =
        record { directory = is.to; named = is.onto; within = lost.0; apart = ne_eqb m new lost.2 } in
        let same = seen-name_lost (node_at t m).content in
        let kinds = dropped_kinds has name_lost same in
        let names = dropped_names has name_lost same in
        let other : n ≢ m = λ here. is.other (ap Some (sym here)) in
        parents_moved
        (record {
          from = kinds old ∙ is.from;
          to = kinds new ∙ is.to;
          named =
              names.names old old_name
              ∙ taken_still t new m new_name t.worked is.to is.onto old n old_name other is.named;
          missing = names.names new new_name ∙ taken_none t new m new_name t.worked is.to is.onto;
        })
        (parents_dropped has name_lost same are)

pub kept_moved : {t u : Tree} {old new n marks more : ℕ} {old_name new_name : List ℕ} {there : Option ℕ}
    {before after : List (Option ℕ)} → IsMove t old old_name new new_name n there
    → u ≡ name_moved_onto t old old_name new new_name n there → IsKept t marks before → more ≡ marks
    → next_of u ≡ next_of t → after ≡ slice_set (without_parent before there) n (Some new) → IsKept u more after
kept_moved {t} {u} {old} {new} {n} {old_name = old_name} {new_name} {there} {before} is step kept counted next set = record {
  counted = counted ∙ kept.counted ∙ sym next;
  stand = subst (AreParents u) (sym set)
      (subst (λ v. AreParents v (slice_set (without_parent before there) n (Some new))) (sym step)
      (parents_onto kept.stand there is));
}
