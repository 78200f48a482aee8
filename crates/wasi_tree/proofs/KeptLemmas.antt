-- What a step keeps of where directories stand.
use Rattle.std.proofs.Common.{◌≡◌, ℕ, ◌+◌, ◌<◌, false, List, [], ◌∷◌, ◌++◌, slice_set, Option, Some, None, Result, Ok, Err, OnOk, OnErr, refl, sym, ap, ◌∙◌, subst, arith}
use Rattle.std.proofs.lemmas.Bool.{true≢false, eqb-false, ne_eqb}
use Rattle.std.specs.FinMap as maps
use Rattle.wasi_paths.specs.Text.{is_dot_text}
use Rattle.wasi_host.specs.Tree.{Tree, Node, Nodes, Content, node_at, next_of, names_of, child, is_directory}
use Rattle.wasi_host.specs.HostCall.{UnlinkAt, RemoveDirAt}
use Rattle.wasi_host.specs.Refusal.{refusal}
use Rattle.wasi_host.specs.Step.{with_content, with_entry, content_changed, node_made, other_bytes, with_times, times_set, name_added, name_dropped, name_lost, without_name, with_name, one_name_more}
use Rattle.wasi_host.specs.declared.system_time.SystemTime.{SystemTime}
use Rattle.wasi_host.proofs.Changes.{changed, changed_apart, directory_within, next_of-changed, next_of-made, node_at-other}
use Rattle.wasi_host.proofs.ValidSteps.{missing_name, can_unlink, can_remove}
use Rattle.wasi_tree.specs.Move.{HasName, MayGain, MayName}
use Rattle.wasi_tree.specs.ParentOf.{named_at, AreParents, IsKept}
use Rattle.wasi_tree.proofs.ParentLemmas.{SameNames, names_same, names_changed, parents_same, taken_kinds, parents_taken, parents_put_leaf, parents_grown}
use Rattle.wasi_tree.proofs.SoundLemmas.{Seen, seen, seen-other_bytes, seen-one_name_more, seen-name_lost}
use Rattle.wasi_tree.proofs.NameLemmas.{get-no_names}
use Rattle.wasi_tree.proofs.StoreLemmas.{child_is}

-- ---- steps that leave the names

pub kept_same : {t u : Tree} {marks more : ℕ} {parents : List (Option ℕ)} → IsKept t marks parents → more ≡ marks
    → SameNames t u → IsKept u more parents
kept_same kept counted same = record {
  counted = counted ∙ kept.counted ∙ sym same.next;
  stand = parents_same same kept.stand;
}

pub names_seen : (t : Tree) (n : ℕ) (node : Node) (worked : Nodes) → n < next_of t
    → seen node.content ≡ seen (node_at t n).content → SameNames t (changed t n node worked)
names_seen t n node worked within same =
    names_changed t n node worked within (ap (λ (s : Seen). s.0.0) same) (ap (λ (s : Seen). s.0.1) same)

-- a file gets other bytes
pub names_rewritten : (t : Tree) (n : ℕ) (change : List ℕ → List ℕ) → n < next_of t
    → SameNames t (content_changed t n (other_bytes change))
names_rewritten t n change within =
    names_seen t n (with_content (node_at t n) (other_bytes change)) (content_changed t n (other_bytes change)).worked
    within (seen-other_bytes change (node_at t n).content)

pub names_timed : (t : Tree) (n : ℕ) (atime mtime : Option SystemTime) → n < next_of t
    → SameNames t (times_set t n atime mtime)
names_timed t n atime mtime within =
    names_seen t n (with_times (node_at t n) atime mtime) (times_set t n atime mtime).worked within refl

-- of a call that may be refused
pub names_either : {A E : Type 0} {t u v : Tree} (result : Result A E) → OnOk result (u ≡ v) → OnErr result (u ≡ t)
    → SameNames t v → SameNames t u
names_either {t = t} (Ok a) done kept same = subst (SameNames t) (sym done) same
names_either (Err error) done kept same = names_same kept

-- ---- names

pub named_there : (t : Tree) (d : ℕ) (name : List ℕ) {found : Option ℕ} → is_dot_text name ≡ false
    → child t d name ≡ found → named_at t d name ≡ found
named_there t d name no_dot is = sym (child_is t d name no_dot) ∙ is

-- a node that has no names
pub named_bare : (t : Tree) (d n : ℕ) (name : List ℕ) → named_at t d name ≡ Some n
    → maps.len (names_of (node_at t d).content) ≡ 0 → ⊥
named_bare t d n name named none =
    let gone : named_at t d name ≡ None =
    ap (λ m. maps.get m name) (maps.empty_of_len (names_of (node_at t d).content) none) ∙ get-no_names name in
    absurd (cc)

-- ---- a node more

-- a node is made under a name that is missing, and its parent is noted
pub record IsGrown (t u : Tree) (d : ℕ) (name : List ℕ) (node : Node) : Type 0 where
  pub may : MayName t d name
  pub bare : names_of node.content ≡ maps.empty
  pub made : u ≡ node_made t d name node

pub kept_grown : {t u : Tree} {d : ℕ} {name : List ℕ} {node : Node} {marks more : ℕ} {old new : List (Option ℕ)}
    → IsGrown t u d name node → IsKept t marks old → more ≡ marks + 1 → new ≡ old ++ Some d ∷ []
    → IsKept u more new
kept_grown {t} {u} {d} {name} {node} {old = old} grown kept counted pushed =
    let directory = grown.may.directory in
    record {
      counted =
          omega (
            arith,
            counted,
            kept.counted,
            ap next_of grown.made,
            next_of-made t d name node (directory_within t d directory),
          );
      stand = subst (AreParents u) (sym pushed) (subst (λ v. AreParents v (old ++ Some d ∷ [])) (sym grown.made)
          (parents_grown t d name node directory (missing_name t d name grown.may.missing).1 grown.bare kept.stand));
    }

-- ---- a name more

pub kept_linked : {t u : Tree} {d n : ℕ} {name : List ℕ} {marks more : ℕ} {parents : List (Option ℕ)}
    → MayGain t d name n → u ≡ name_added t d name n → IsKept t marks parents → more ≡ marks
    → next_of u ≡ next_of t → IsKept u more parents
kept_linked {t} {u} {d} {n} {name} {parents = parents} gains is_added kept counted next =
    let directory = gains.may.directory in
    let put : Tree = content_changed t d (with_entry name n) in
    let inside : n < next_of put =
    omega (arith, gains.within, next_of-changed t d (with_name (node_at t d) name n) put.worked) in
    record {
      counted = counted ∙ kept.counted ∙ sym next;
      stand = subst (λ v. AreParents v parents)
          (changed_apart t d n (with_entry name n) one_name_more (directory_within t d directory)
          (eqb-false n d gains.apart)
          ∙ sym is_added)
          (parents_same
          (names_seen put n (with_content (node_at put n) one_name_more)
          (content_changed put n one_name_more).worked inside (seen-one_name_more (node_at put n).content))
          (parents_put_leaf t d n name put.worked directory (missing_name t d name gains.may.missing).1
          kept.stand gains.within gains.leaf));
    }

-- the same, of what may be refused
pub linked_either : {A E : Type 0} {t u : Tree} {d n : ℕ} {name : List ℕ} {marks : ℕ} {parents : List (Option ℕ)}
    → MayGain t d name n → (result : Result A E) → OnOk result (u ≡ name_added t d name n) → OnErr result (u ≡ t)
    → IsKept t marks parents → next_of u ≡ next_of t → IsKept u marks parents
linked_either gains (Ok a) added same kept next = kept_linked gains added kept refl next
linked_either gains (Err error) added same kept next = kept_same kept refl (names_same same)

-- ---- a name less

-- the name is gone, and what it held is what it was, but for its count of names, or that it is gone
module _ {t : Tree} {d n : ℕ} {name : List ℕ} (has : HasName t d name n) (change : Content → Content)
    (same : seen (change (node_at t n).content) ≡ seen (node_at t n).content) where
  abbrev less : Node
  less = without_name (node_at t d) name

  abbrev half : Tree
  half = changed t d less t.worked

  abbrev dropped : Tree
  dropped = name_dropped t d name change n

  pub dropped_names : SameNames half dropped
  dropped_names =
      names_seen half n (record (node_at t n) { content = change (node_at t n).content }) dropped.worked
      (omega (arith, has.within, next_of-changed t d less t.worked))
      (same
      ∙ ap (λ (node : Node). seen node.content)
      (sym (node_at-other t d less t.worked (directory_within t d has.directory) n (eqb-false n d has.apart))))

  pub dropped_kinds : (k : ℕ) → is_directory (node_at dropped k).content ≡ is_directory (node_at t k).content
  dropped_kinds k = dropped_names.kinds k ∙ taken_kinds t d n name t.worked has.directory has.named k

  pub parents_dropped : {parents : List (Option ℕ)} → AreParents t parents
      → AreParents dropped (slice_set parents n None)
  parents_dropped are =
      parents_same dropped_names (parents_taken t d n name t.worked has.directory has.named are)

-- a name is dropped, and what it held stands nowhere from then on
pub kept_dropped : {t u : Tree} {marks more d n : ℕ} {name : List ℕ} {old new : List (Option ℕ)} → HasName t d name n
    → u ≡ name_dropped t d name name_lost n → IsKept t marks old → more ≡ marks → next_of u ≡ next_of t
    → new ≡ slice_set old n None → IsKept u more new
kept_dropped {t} {u} {n = n} {old = old} has dropped kept counted next set = record {
  counted = counted ∙ kept.counted ∙ sym next;
  stand = subst (AreParents u) (sym set) (subst (λ v. AreParents v (slice_set old n None)) (sym dropped)
      (parents_dropped has name_lost (seen-name_lost (node_at t n).content) kept.stand));
}

-- ---- names that no rule refuses to drop

pub unlink_has : {t : Tree} {d n : ℕ} {name : List ℕ} → refusal t (UnlinkAt d name) ≡ None → child t d name ≡ Some n
    → n < next_of t → HasName t d name n
unlink_has {t} {d} {n} {name} free is within =
    let can = can_unlink t d n name free is in
    record {
      directory = can.0;
      named = named_there t d name can.1 is;
      within = within;
      apart = ne_eqb n d (λ same. true≢false
          (sym can.0 ∙ ap (λ k. is_directory (node_at t k).content) (sym same) ∙ can.2));
    }

pub remove_has : {t : Tree} {d n : ℕ} {name : List ℕ} → refusal t (RemoveDirAt d name) ≡ None
    → child t d name ≡ Some n → n < next_of t → HasName t d name n
remove_has {t} {d} {n} {name} free found within =
    let can = can_remove t d n name free found in
    let named : named_at t d name ≡ Some n = named_there t d name can.1 found in
    record {
      directory = can.0;
      named = named;
      within = within;
      apart = ne_eqb n d (λ same. named_bare t d n name named
          (ap (λ k. maps.len (names_of (node_at t k).content)) (sym same) ∙ can.3));
    }
