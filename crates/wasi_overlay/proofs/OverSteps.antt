-- What a step makes of a store's parts.
use Rattle.std.proofs.Common.{◌≡◌, ◌<◌, ◌++◌, ◌∷◌, [], ℕ, List, slice_set, slice_index_or, length, true, Option, Some, None, Result, Ok, Err, OnOk, OnErr, refl, sym, ap, ◌∙◌, subst, arith}
use Rattle.std.proofs.lemmas.Bool.{eqb-false}
use Rattle.std.proofs.lemmas.List.{length-set, length-append}
use Rattle.std.specs.FinMap as maps
use Rattle.std.specs.FinSet.{insert}
use Rattle.wasi_host.specs.Tree.{Tree, Node, Nodes, Names, Content, node_at, next_of, stray, is_directory}
use Rattle.wasi_host.specs.Step.{with_content, with_entry, without_entry, content_changed, node_made, name_added, name_dropped, name_lost, name_moved_onto, one_name_more, other_bytes, with_times, times_set}
use Rattle.wasi_host.specs.declared.system_time.SystemTime.{SystemTime}
use Rattle.wasi_host.proofs.Changes.{changed_apart, directory_within}
use Rattle.wasi_tree.specs.Move.{HasName, IsMove, MayGain, MayName, found_lost}
use Rattle.wasi_tree.specs.ParentOf.{IsKept, without_parent}
use Rattle.wasi_tree.specs.Sound.{IsSound, IsSoundNode, NodesStay}
use Rattle.wasi_tree.specs.StoredTree.{named_content, with_names, AreBelow}
use Rattle.wasi_tree.specs.TouchedTree.{Touched}
use Rattle.wasi_tree_index.specs.DirEntryKeys.{AllNames}
use Rattle.wasi_tree.proofs.MoveLemmas.{moved_as, put_from}
use Rattle.wasi_tree.proofs.NamedLemmas.{below_more, below-insert, below-remove, unnamed-name_lost, unnamed-one_name_more, unnamed-other_bytes}
use Rattle.wasi_tree.proofs.SoundLemmas.{seen, seen-other_bytes, stays_same}
use Rattle.wasi_overlay.specs.OverStore.{IsOver, OverlayParts, nodes_lost, tree_over, worked_lost}
use Rattle.wasi_overlay.proofs.Steps.{Fits, Keeps, keeps_content, keeps_seen, keeps_linked, keeps_dropped, keeps_made, keeps_moved}
use Rattle.wasi_overlay.proofs.TreeOver.{over_changed, over_made, over_next, over_put_name, over_take_name, over_timed}

pub fits_of : {s : OverlayParts} {parents : List (Option ℕ)} → IsOver s parents → Fits (tree_over s) parents
fits_of over = record { sound = over.sound; kept = over.kept }

-- what a store shows
pub shown_as : {now touched : Nodes} {t u : Tree} → t ≡ u → now ≡ touched
    → (let shown : Touched = record { tree = t; touched = now } in shown)
    ≡ (let shown : Touched = record { tree = u; touched = touched } in shown)
shown_as tree touched = λ i. let shown : Touched = record { tree = tree i; touched = touched i } in shown

-- the parts after a step that keeps what holds
pub record IsStep (s after : OverlayParts) (u : Tree) (parents : List (Option ℕ)) : Type 0 where
  pub is : tree_over after ≡ u
  pub keeps : Keeps (tree_over s) u parents
  pub below : AreBelow after.names (length after.nodes)

module _ {s after : OverlayParts} {u : Tree} {parents : List (Option ℕ)} (step : IsStep s after u parents) where
  pub over_after : IsOver after parents
  over_after = record {
    sound = subst (λ v. IsSound v (next_of v)) (sym step.is) step.keeps.fits.sound;
    below = step.below;
    kept = subst (λ v. IsKept v (next_of v) parents) (sym step.is) step.keeps.fits.kept;
  }

  pub stays_after : NodesStay (tree_over s) (tree_over after)
  stays_after = subst (NodesStay (tree_over s)) (sym step.is) step.keeps.stays

-- ---- another content of a node

-- a change of contents that names commute with, and that leaves names and kinds
pub record IsPlain (f : Content → Content) : Type 0 where
  pub unnamed : (names : Names) (c : Content) → named_content names (f c) ≡ f (named_content names c)
  pub same : (c : Content) → seen (f c) ≡ seen c

-- the node of a number has another content, and was worked on
pub record IsWritten (f : Content → Content) (s after : OverlayParts) (n : ℕ) : Type 0 where
  pub within : n < length s.nodes
  pub nodes : after.nodes ≡ slice_set s.nodes n (with_content (slice_index_or s.nodes n stray) f)
  pub worked : after.worked ≡ insert s.worked n
  pub names : after.names ≡ s.names
  pub limits : after.limits ≡ s.limits

pub writes : {f : Content → Content} {s after : OverlayParts} {n : ℕ} {parents : List (Option ℕ)} → IsPlain f
    → IsWritten f s after n → IsOver s parents → IsStep s after (content_changed (tree_over s) n f) parents
writes {f} {s} {after} {n} plain written over = record {
  is =
      (λ i. let parts : OverlayParts = record {
        nodes = written.nodes i;
        names = written.names i;
        limits = written.limits i;
        worked = written.worked i;
      } in tree_over parts)
      ∙ over_changed s f plain.unnamed n written.within;
  keeps = keeps_content f plain.same n (omega (arith, written.within, over_next s)) (fits_of over);
  below = subst (λ names. AreBelow names (length after.nodes)) (sym written.names)
      (below_more (omega (
        arith,
        ap length written.nodes,
        length-set s.nodes n (with_content (slice_index_or s.nodes n stray) f),
      )) over.below);
}

-- what is done to the bytes of a file
pub plain_bytes : (change : List ℕ → List ℕ) → IsPlain (other_bytes change)
plain_bytes change = record { unnamed = unnamed-other_bytes change; same = seen-other_bytes change }

-- a node's times are set
pub times : {s after : OverlayParts} {n : ℕ} {parents : List (Option ℕ)} (atime mtime : Option SystemTime) → n < length s.nodes
    → after ≡ record s { nodes = slice_set s.nodes n (with_times (slice_index_or s.nodes n stray) atime mtime); worked = insert s.worked n }
    → IsOver s parents → IsStep s after (times_set (tree_over s) n atime mtime) parents
times {s} {after} {n} {parents} atime mtime within is over =
    let t = tree_over s in
    subst (λ parts. IsStep s parts (times_set t n atime mtime) parents) (sym is) (record {
      is = over_timed s atime mtime n within;
      keeps = keeps_seen n (with_times (node_at t n) atime mtime) (times_set t n atime mtime).worked
          (omega (arith, within, over_next s)) refl (fits_of over);
      below = below_more (omega (arith, length-set s.nodes n (with_times (slice_index_or s.nodes n stray) atime mtime))) over.below;
    })

-- ---- names

-- a name is put, and the node that gets it counts it
pub links : {s after : OverlayParts} {d n : ℕ} {name : List ℕ} {parents : List (Option ℕ)} → MayGain (tree_over s) d name n
    → after ≡ record s {
      nodes = slice_set s.nodes n (with_content (slice_index_or s.nodes n stray) one_name_more);
      names = maps.insert s.names (d, name) n;
      worked = insert (insert s.worked d) n;
    } → IsOver s parents → IsStep s after (name_added (tree_over s) d name n) parents
links {s} {after} {d} {n} {name} {parents} gains is over =
    let t = tree_over s in
    let within : n < length s.nodes = omega (arith, gains.within, over_next s) in
    let directory = gains.may.directory in
    let half : OverlayParts = record s { names = maps.insert s.names (d, name) n; worked = insert s.worked d } in
    subst (λ parts. IsStep s parts (name_added t d name n) parents) (sym is) (record {
      is = over_changed half one_name_more unnamed-one_name_more n within
          ∙ ap (λ (u : Tree). content_changed u n one_name_more) (over_put_name s d directory name n)
          ∙ changed_apart t d n (with_entry name n) one_name_more (directory_within t d directory) (eqb-false n d gains.apart);
      keeps = keeps_linked gains (fits_of over);
      below = below_more (omega (arith, length-set s.nodes n (with_content (slice_index_or s.nodes n stray) one_name_more)))
          (below-insert d name n (omega (arith, directory_within t d directory, over_next s)) over.below);
    })

-- a name is taken, and the node that had it has one fewer
pub drops : {s after : OverlayParts} {d n : ℕ} {name : List ℕ} {parents : List (Option ℕ)} → HasName (tree_over s) d name n
    → after ≡ record s {
      nodes = slice_set s.nodes n (with_content (slice_index_or s.nodes n stray) name_lost);
      names = maps.remove s.names (d, name);
      worked = insert (insert s.worked d) n;
    } → IsOver s parents
    → IsStep s after (name_dropped (tree_over s) d name name_lost n) (slice_set parents n None)
drops {s} {after} {d} {n} {name} {parents} has is over =
    let t = tree_over s in
    let within : n < length s.nodes = omega (arith, has.within, over_next s) in
    let directory = has.directory in
    let half : OverlayParts = record s { names = maps.remove s.names (d, name); worked = insert s.worked d } in
    subst (λ parts. IsStep s parts (name_dropped t d name name_lost n) (slice_set parents n None)) (sym is) (record {
      is = over_changed half name_lost unnamed-name_lost n within
          ∙ ap (λ (u : Tree). content_changed u n name_lost) (over_take_name s d directory name)
          ∙ changed_apart t d n (without_entry name) name_lost (directory_within t d directory) (eqb-false n d has.apart);
      keeps = keeps_dropped has (fits_of over);
      below = below_more (omega (arith, length-set s.nodes n (with_content (slice_index_or s.nodes n stray) name_lost)))
          (below-remove d name (omega (arith, directory_within t d directory, over_next s)) over.below);
    })

-- a node more, under a name that its directory lacks
pub makes : {s after : OverlayParts} {d : ℕ} {name : List ℕ} {node : Node} {parents : List (Option ℕ)} → MayName (tree_over s) d name
    → IsSoundNode 0 node → with_names maps.empty node ≡ node → after ≡ record s {
      nodes = s.nodes ++ node ∷ [];
      names = maps.insert s.names (d, name) (length s.nodes);
      worked = insert (insert s.worked d) (length s.nodes);
    } → IsOver s parents → IsStep s after (node_made (tree_over s) d name node) (parents ++ Some d ∷ [])
makes {s} {after} {d} {name} {node} {parents} may sound bare is over =
    let t = tree_over s in
    let inside : d < length s.nodes = omega (arith, directory_within t d may.directory, over_next s) in
    subst (λ parts. IsStep s parts (node_made t d name node) (parents ++ Some d ∷ [])) (sym is) (record {
      is = over_made s d may.directory name node over.below bare;
      keeps = keeps_made may sound (fits_of over);
      below = below_more (omega (arith, length-append s.nodes (node ∷ []))) (below-insert d name (length s.nodes) inside over.below);
    })

-- what a name held, if it held something, has one fewer
abbrev pub parts_lost : OverlayParts → Option ℕ → OverlayParts
parts_lost s there = record s { nodes = nodes_lost s.nodes there; worked = worked_lost s.worked there }

lost_is : (s : OverlayParts) (there : Option ℕ) → ((m : ℕ) → there ≡ Some m → m < length s.nodes)
    → tree_over (parts_lost s there) ≡ found_lost (tree_over s) there
lost_is s None inside = refl
lost_is s (Some m) inside = over_changed s name_lost unnamed-name_lost m (inside m refl)

pub length-lost : (nodes : List Node) (there : Option ℕ) → length (nodes_lost nodes there) ≡ length nodes
length-lost nodes None = refl
length-lost nodes (Some m) = length-set nodes m (with_content (slice_index_or nodes m stray) name_lost)

-- a name moves to another, and what that held loses it
pub moves : {s after : OverlayParts} {old new n : ℕ} {old_name new_name : List ℕ} {there : Option ℕ} {parents : List (Option ℕ)}
    → IsMove (tree_over s) old old_name new new_name n there
    → (let half : OverlayParts = parts_lost (record s { worked = insert s.worked new }) there in
    after ≡ record half {
      names = maps.remove (maps.insert s.names (new, new_name) n) (old, old_name);
      worked = insert half.worked old;
    }) → IsOver s parents
    → IsStep s after (name_moved_onto (tree_over s) old old_name new new_name n there)
    (slice_set (without_parent parents there) n (Some new))
moves {s} {after} {old} {new} {n} {old_name} {new_name} {there} {parents} may is over =
    let t = tree_over s in
    let names : AllNames = maps.insert s.names (new, new_name) n in
    let half : OverlayParts = record s { names = names; worked = insert s.worked new } in
    let put : tree_over half ≡ content_changed t new (with_entry new_name n) = over_put_name s new may.to new_name n in
    let lost : OverlayParts = parts_lost half there in
    let lost_tree : tree_over lost ≡ found_lost (content_changed t new (with_entry new_name n)) there =
    lost_is half there (λ m here. omega (arith, (may.lost m here).0, over_next s))
    ∙ ap (λ (u : Tree). found_lost u there) put in
    let directory : is_directory (node_at (tree_over lost) old).content ≡ true =
    ap (λ (u : Tree). is_directory (node_at u old).content) lost_tree ∙ put_from t old new n old_name new_name there may in
    record {
      is = ap tree_over is ∙ over_take_name lost old directory old_name
          ∙ ap (λ (u : Tree). content_changed u old (without_entry old_name)) lost_tree
          ∙ moved_as t old new n old_name new_name there may;
      keeps = keeps_moved may (fits_of over);
      below = subst (λ (parts : OverlayParts). AreBelow parts.names (length parts.nodes)) (sym is)
          (below_more (omega (arith, length-lost half.nodes there))
          (below-remove old old_name (omega (arith, directory_within t old may.from, over_next s))
          (below-insert new new_name n (omega (arith, directory_within t new may.to, over_next s)) over.below)));
    }

-- ---- of what may want memory

-- the step was made, or nothing has changed
pub record MaybeStep {A E : Type 0} (result : Result A E) (s after : OverlayParts) (u : Tree) (parents : List (Option ℕ)) : Type 0 where
  pub over : IsOver after parents
  pub stays : NodesStay (tree_over s) (tree_over after)
  pub is : OnOk result (tree_over after ≡ u)

pub maybe_writes : {A E : Type 0} (result : Result A E) {f : Content → Content} {s after : OverlayParts} (n : ℕ)
    {parents : List (Option ℕ)} → IsPlain f → OnOk result (IsWritten f s after n) → OnErr result (after ≡ s)
    → IsOver s parents → MaybeStep result s after (content_changed (tree_over s) n f) parents
maybe_writes (Ok a) n plain written same over =
    let step = writes plain written over in
    record { over = over_after step; stays = stays_after step; is = step.is }
maybe_writes (Err error) {s = s} n {parents = parents} plain written same over = record {
  over = subst (λ parts. IsOver parts parents) (sym same) over;
  stays = stays_same (tree_over s) _ (ap tree_over same);
  is = tt;
}

-- two facts of an answer are one
pub on_both : {A E P Q R : Type 0} (result : Result A E) → (P → Q → R) → OnOk result P → OnOk result Q → OnOk result R
on_both (Ok a) f p q = f p q
on_both (Err error) f p q = tt

pub on_same : {A E B C : Type 0} (result : Result A E) (f : B → C) (x y : B) → OnErr result (x ≡ y) → OnErr result (f x ≡ f y)
on_same (Ok a) f x y same = tt
on_same (Err error) f x y same = ap f same
