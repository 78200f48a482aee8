-- The inodes of a list of nodes stand for its tree, and it is sound where the nodes are fit.
use Rattle.std.proofs.Common.{◌≡◌, ◌<◌, ℕ, zero, suc, ◌+◌, Bool, true, false, cond, not, ◌&&◌, nat_lt, nat_le, List, [], ◌∷◌, ◌++◌, Some, map, length, refl, sym, ap, ◌∙◌, subst, arith, append_assoc, slice_index_or}
use Rattle.std.specs.Prelude.{slice_get}
use Rattle.std.proofs.lemmas.Bool.{true≢false, and_parts, ltb-true, leb-true}
use Rattle.std.proofs.lemmas.List.{length-map, length-append, map_push}
use Rattle.std.specs.List.{list_all}
use Rattle.std.specs.Option.{ForSome}
use Rattle.std.specs.Ordering.{nat_cmp, eq_by_cmp}
use Rattle.std.specs.Str.{is_utf8}
use Rattle.std.specs.Cmp.Lexicographic.{slice_cmp, nat_list_cmp_total}
use Rattle.std.specs.FinMap as maps
use Rattle.std.specs.FinSet as set
use Rattle.wasi_paths.specs.Text.{has_nul, is_entry_name}
use Rattle.wasi_host.specs.Tree.{Tree, Node, Nodes, node_at, stray, names_of, text_of, is_link}
use Rattle.wasi_host.specs.declared.limits.Limits.{Limits}
use Rattle.wasi_host.specs.Numbers.{longest_link}
use Rattle.wasi_tree.specs.NodeData.{NodeData, ContentData, file, directory, link, entry_count, content_from, node_from, nodes_from, tree_of}
use Rattle.wasi_tree.specs.NodeDataTests.{numbers_from}
use Rattle.wasi_tree.specs.WellFormed.{is_fit_entry, IsFitContent, IsFit, AreFit, name_counts}
use Rattle.wasi_tree_index.specs.DirEntryKeys.{AllNames, names_at}
use Rattle.wasi_tree.specs.StoredTree.{stored_node, stored_tree, with_names, named_from, AreBelow, OtherNamesStay, IsStored}
use Rattle.wasi_tree.specs.Sound.{IsSoundNode, IsSoundText}
use Rattle.wasi_tree.specs.declared.inode.Inode.{Inode}
use Rattle.wasi_host.proofs.EntryLemmas.{unnamed}
use Rattle.wasi_tree.proofs.TextEntries.{same_name}
use Rattle.wasi_tree.proofs.NamedLemmas.{named-others, named_push, length-named, none_below, apart_from}
use Rattle.wasi_tree.proofs.SoundLemmas.{bare}

-- ---- the counts, by number

pub length-numbers : (k n : ℕ) → length (numbers_from k n) ≡ n
length-numbers k zero = refl
length-numbers k (suc n) = ap suc (length-numbers (k + 1) n)

pub value_at : (f : ℕ → ℕ) (k n i d : ℕ) → i < n → slice_index_or (map f (numbers_from k n)) i d ≡ f (k + i)
value_at f k zero i d within = absurd (omega arith)
value_at f k (suc n) zero d within = ap f (omega arith)
value_at f k (suc n) (suc i) d within = value_at f (k + 1) n i d (omega arith) ∙ ap f (omega arith)

length-name_counts : (all : List NodeData) → length (name_counts all) ≡ length all
length-name_counts all =
    length-map (numbers_from 0 (length all)) (λ n. entry_count n all) ∙ length-numbers 0 (length all)

-- ---- inodes of the nodes, one after another

-- the inodes and names of the first nodes are made, and these nodes are left
pub record AreInodes (all : List NodeData) (inodes : List Inode) (names : AllNames) (left : List NodeData) : Type 0 where
  pub same : named_from names 0 (map stored_node inodes) ++ nodes_from all (length inodes) left ≡ nodes_from all 0 all
  pub count : length inodes + length left ≡ length all
  pub below : AreBelow names (length inodes)

pub no_inode : (all : List NodeData) (inodes : List Inode) (names : AllNames) → inodes ≡ [] → names ≡ maps.empty
    → AreInodes all inodes names all
no_inode all inodes names none bare = subst (λ (made : List Inode). AreInodes all made names all) (sym none)
    (record { same = refl; count = omega arith; below = none_below 0 bare })

-- the next number has a count, which is how many entries give it
pub next_count : {all : List NodeData} {inodes : List Inode} {names : AllNames} {n : ℕ} {left rest : List NodeData} {g : NodeData} {counts : List ℕ}
    → n ≡ length inodes → counts ≡ name_counts all → left ≡ g ∷ rest → AreInodes all inodes names left
    → (n < length counts) × (slice_index_or counts n 0 ≡ entry_count n all)
next_count {all} {n = n} number is next so_far =
    let within : n < length all = omega (arith, number, so_far.count, ap length next) in (
      omega (arith, within, ap length is, length-name_counts all),
      ap (λ ns. slice_index_or ns n 0) is
          ∙ value_at (λ k. entry_count k all) 0 (length all) n 0 within ∙ ap (λ k. entry_count k all) (omega arith),
    )

pub inode_more : {all : List NodeData} {inodes now : List Inode} {names more : AllNames} {n : ℕ} {left rest : List NodeData} {g : NodeData}
    (inode : Inode) → n ≡ length inodes → now ≡ inodes ++ inode ∷ []
    → with_names (names_at more n) (stored_node inode) ≡ node_from all n g → OtherNamesStay n names more
    → left ≡ g ∷ rest → AreInodes all inodes names left → AreInodes all now more rest
inode_more {all} {inodes} {now} {names} {more} {n} {left} {rest} {g} inode number pushed is others next so_far =
    let long : length now ≡ length inodes + 1 = ap length pushed ∙ length-append inodes (inode ∷ []) in
    let count : length (map stored_node inodes) ≡ length inodes = length-map inodes stored_node in
    let made : named_from more 0 (map stored_node now)
    ≡ named_from names 0 (map stored_node inodes) ++ node_from all (length inodes) g ∷ [] =
    ap (λ items. named_from more 0 (map stored_node items)) pushed
    ∙ ap (named_from more 0) (map_push stored_node inodes inode)
    ∙ named_push more (map stored_node inodes) (stored_node inode)
    ∙ (λ i. named-others others 0 (map stored_node inodes) (omega (arith, number, count)) i
    ++ (ap (λ k. with_names (names_at more k) (stored_node inode)) (count ∙ sym number) ∙ is ∙ ap (λ k. node_from all k g) number) i ∷ []) in
    record {
      same =
          (λ i. made i ++ nodes_from all (long i) rest)
          ∙ append_assoc (named_from names 0 (map stored_node inodes)) (node_from all (length inodes) g ∷ [])
          (nodes_from all (length inodes + 1) rest)
          ∙ ap (λ gs. named_from names 0 (map stored_node inodes) ++ nodes_from all (length inodes) gs) (sym next) ∙ so_far.same;
      count = omega (arith, long, ap length next, so_far.count);
      below = record {
        none = λ e past.
            others.same e (apart_from n e (omega (arith, number, long))) ∙ so_far.below.none e (omega (arith, long));
      };
    }

-- ---- fit nodes are sound

pub length-nodes_from : (all : List NodeData) (k : ℕ) (gs : List NodeData) → length (nodes_from all k gs) ≡ length gs
length-nodes_from all k [] = refl
length-nodes_from all k (g ∷ gs) = ap suc (length-nodes_from all (k + 1) gs)

-- a name of fit entries is one that a directory may hold, and holds a number in range
entries_fit : (count : ℕ) (entries : List (List ℕ × ℕ)) → list_all (is_fit_entry count) entries ≡ true
    → (name : List ℕ) (n : ℕ) → maps.get (maps.from_entries {R = slice_cmp nat_cmp} entries) name ≡ Some n
    → (n < count) × (is_entry_name name ≡ true)
entries_fit count [] are name n is = absurd (unnamed maps.empty name n refl is)
entries_fit count (e ∷ es) are name n is =
    let parts = and_parts (is_fit_entry count e) (list_all (is_fit_entry count) es) are in
    let ends = and_parts (is_entry_name e.0 && is_utf8 e.0) (nat_lt e.1 count) parts.0 in
    let good = (and_parts (is_entry_name e.0) (is_utf8 e.0) ends.0).0 in
    pick (eq_by_cmp (slice_cmp nat_cmp) name e.0) refl (entries_fit count es parts.1 name n)
    (ltb-true e.1 count ends.1, good) (sym (maps.get-insert nat_list_cmp_total (maps.from_entries es) e.0 e.1 name) ∙ is)
  where
    pick : (b : Bool) → eq_by_cmp (slice_cmp nat_cmp) name e.0 ≡ b
        → (maps.get (maps.from_entries {R = slice_cmp nat_cmp} es) name ≡ Some n
        → (n < count) × (is_entry_name name ≡ true))
        → (e.1 < count) × (is_entry_name e.0 ≡ true)
        → cond b (Some e.1) (maps.get (maps.from_entries {R = slice_cmp nat_cmp} es) name) ≡ Some n
        → (n < count) × (is_entry_name name ≡ true)
    pick true tie rest fit found =
        let same : e.1 ≡ n = cc in
        (subst (λ x. x < count) same fit.0, ap is_entry_name (same_name name e.0 tie) ∙ fit.1)
    pick false tie rest fit found = rest found

module _ (limits : Limits) (all : List NodeData) where
  pub content_named : (k : ℕ) (content : ContentData) → IsFitContent limits all k content → (name : List ℕ) (n : ℕ)
      → maps.get (names_of (content_from all k content)) name ≡ Some n
      → (n < length all) × (is_entry_name name ≡ true)
  content_named k (file bytes) fit name n is = absurd (unnamed maps.empty name n refl is)
  content_named k (directory entries) fit name n is = entries_fit (length all) entries fit.0 name n is
  content_named k (link text) fit name n is = absurd (unnamed maps.empty name n refl is)

  content_text : (k : ℕ) (content : ContentData) → IsFitContent limits all k content
      → is_link (content_from all k content) ≡ true → IsSoundText (text_of (content_from all k content))
  content_text k (file bytes) fit linked = absurd (true≢false (sym linked))
  content_text k (directory entries) fit linked = absurd (true≢false (sym linked))
  content_text k (link text) fit linked =
      let long : Bool = nat_lt 0 (length text) && nat_le (length text) longest_link in
      let utf8 = and_parts (long && is_utf8 text) (not (has_nul text)) fit.0 in
      let short = and_parts long (is_utf8 text) utf8.0 in
      let parts = and_parts (nat_lt 0 (length text)) (nat_le (length text) longest_link) short.0 in
      record { some = ltb-true 0 (length text) parts.0; most = leb-true (length text) longest_link parts.1 }

  node_sound : (k : ℕ) (g : NodeData) → IsFit limits all k g → IsSoundNode (length all) (node_from all k g)
  node_sound k g fit = record {
    below = λ name n is. (content_named k g.content fit.1 name n is).0;
    named = λ name n is. (content_named k g.content fit.1 name n is).1;
    text = content_text k g.content fit.1;
  }

  nodes_sound : (k : ℕ) (gs : List NodeData)
      → ((j n : ℕ) → j ≡ k + n → ForSome (slice_get gs n) (IsFit limits all j)) → (n : ℕ)
      → IsSoundNode (length all) (slice_index_or (nodes_from all k gs) n stray)
  nodes_sound k [] fit n = bare (length all) stray refl refl
  nodes_sound k (g ∷ gs) fit zero = node_sound k g (fit k 0 (omega arith) g refl)
  nodes_sound k (g ∷ gs) fit (suc n) = nodes_sound (k + 1) gs (λ j m is. fit j (suc m) (omega (arith, is))) n

pub inodes_sound : (inodes : List Inode) (names : AllNames) (limits : Limits) (worked : Nodes) (marks : ℕ) (all : List NodeData)
    → AreFit limits all → named_from names 0 (map stored_node inodes) ≡ nodes_from all 0 all → marks ≡ length inodes
    → AreBelow names (length inodes) → IsStored inodes names limits worked marks
unfolding node_at
inodes_sound inodes names limits worked marks all fit same counted below = record {
  sound = record {
    nodes = λ n.
        subst (λ (nodes : List Node). IsSoundNode (length nodes) (slice_index_or nodes n stray)) (sym same)
        (subst (λ count. IsSoundNode count (slice_index_or (nodes_from all 0 all) n stray))
        (sym (length-nodes_from all 0 all)) (nodes_sound limits all 0 all (λ j m is.
        subst (λ i. ForSome (slice_get all i) (IsFit limits all j)) (omega (arith, is)) ((fit j).fit)) n));
    counted = counted ∙ sym (length-named names 0 (map stored_node inodes) ∙ length-map inodes stored_node);
  };
  below = below;
}

pub inodes_tree : (inodes : List Inode) (names : AllNames) (limits : Limits) (worked : Nodes) (all : List NodeData)
    → named_from names 0 (map stored_node inodes) ≡ nodes_from all 0 all → worked ≡ set.empty
    → stored_tree inodes names limits worked ≡ tree_of all limits
unfolding tree_of
inodes_tree inodes names limits worked all same none =
    λ i. let t : Tree = record { nodes = same i; limits = limits; worked = none i } in t

pub ruleset new_tree_rules = (inodes_sound, inodes_tree)
