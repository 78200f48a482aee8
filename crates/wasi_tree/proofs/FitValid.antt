-- The tree of fit nodes is valid.
use Rattle.std.proofs.Common.{◌≡◌, ℕ, zero, suc, ◌+◌, ◌<◌, ◌≤◌, true, false, not, ◌&&◌, inl, inr, ⊎_elim, List, [], ◌∷◌, length, slice_get, slice_index_or, nat_eq, nat_lt, nat_le, sum_by, count_by, Option, Some, None, refl, sym, ap, ◌∙◌, subst, arith, zero-add, add-zero}
use Rattle.std.specs.List.{All, Contains, list_all}
use Rattle.std.specs.Option.{ForSome}
use Rattle.std.specs.Str.{is_utf8}
use Rattle.std.specs.FinMap as maps
use Rattle.std.proofs.lemmas.Str.{IsUtf8-from_is_utf8}
use Rattle.std.specs.Cmp.Lexicographic.{nat_list_cmp_total}
use Rattle.std.proofs.Math.Bool.{and-false}
use Rattle.std.proofs.lemmas.Bool.{and_parts, not-true, ltb-true, leb-true, ne_eqb}
use Rattle.std.proofs.lemmas.List.Elements.{All-nil, All-cons}
use Rattle.std.proofs.lemmas.List.Sums.{sum_by-cons}
use Rattle.std.proofs.lemmas.Option.{slice_get-get_or}
use Rattle.wasi_paths.specs.Text.{has_nul, is_entry_name}
use Rattle.wasi_host.specs.Tree.{Node, Names, node_at, next_of, names_of, is_directory, is_gone, stray}
use Rattle.wasi_host.specs.ValidTree.{AreLimits, are_bytes, names_for, name_count, Reached, IsEntry, IsPlaced, IsValidContent, IsRoot, IsValidTree}
use Rattle.wasi_host.specs.ValidTree as valid
use Rattle.wasi_host.specs.declared.limits.Limits.{Limits}
use Rattle.wasi_host.specs.Numbers.{largest_file, longest_link}
use Rattle.wasi_tree.specs.NodeData.{NodeData, ContentData, file, directory, link, data_entries, entry_count, content_from, node_from, nodes_from, tree_of}
use Rattle.wasi_tree.specs.NodeDataTests.{is_dir_content, are_distinct, starts_with_directory}
use Rattle.wasi_tree.specs.WellFormed.{is_fit_entry, IsFound, at_zero, by_entry, entries_held, HasPlace, IsFitContent, AreFit}
use Rattle.wasi_tree.proofs.CountLemmas.{times-numbers}
use Rattle.wasi_tree.proofs.NodeDataNames.{texts, names_from, times-from, All-from, find_held}
use Rattle.wasi_tree.proofs.NewTreeLemmas.{length-nodes_from}

-- the nodes of the tree
nodes_at : (all : List NodeData) (k : ℕ) (gs : List NodeData) (n : ℕ) (s : Node) (g : NodeData) → slice_get gs n ≡ Some g
    → slice_index_or (nodes_from all k gs) n s ≡ node_from all (k + n) g
nodes_at all k [] n s g at = cc
nodes_at all k (h ∷ gs) zero s g at =
    let same : h ≡ g = (cc) in
    ap (λ f. node_from all k f) same ∙ ap (λ j. node_from all j g) (sym (add-zero k))
nodes_at all k (h ∷ gs) (suc n) s g at =
    let place : (k + 1) + n ≡ k + suc n = omega arith in
    nodes_at all (k + 1) gs n s g at ∙ ap (λ j. node_from all j g) place

pub node_is : (nodes : List NodeData) (limits : Limits) (n : ℕ) (g : NodeData) → slice_get nodes n ≡ Some g
    → node_at (tree_of nodes limits) n ≡ node_from nodes n g
unfolding node_at tree_of
node_is nodes limits n g at = nodes_at nodes 0 nodes n stray g at ∙ ap (λ j. node_from nodes j g) (zero-add n)

pub next_is : (nodes : List NodeData) (limits : Limits) → next_of (tree_of nodes limits) ≡ length nodes
unfolding tree_of
next_is nodes limits = length-nodes_from nodes 0 nodes

limits_are : (nodes : List NodeData) (limits : Limits) → (tree_of nodes limits).limits ≡ limits
unfolding tree_of
limits_are nodes limits = refl

-- the names of a node
abbrev pub data_names : ContentData → Names
data_names (file bytes) = maps.empty
data_names (directory entries) = names_from entries
data_names (link text) = maps.empty

pub names_of_data : (all : List NodeData) (k : ℕ) (content : ContentData)
    → names_of (content_from all k content) ≡ data_names content
names_of_data all k (file bytes) = refl
names_of_data all k (directory entries) = refl
names_of_data all k (link text) = refl

-- no name stands twice in a node
abbrev pub HasDistinct : NodeData → Type 0
HasDistinct g = are_distinct (texts (data_entries g.content)) ≡ true

count_content : (all : List NodeData) (k n : ℕ) (content : ContentData) → are_distinct (texts (data_entries content)) ≡ true
    → count_by (λ held. nat_eq held n) (maps.values (names_of (content_from all k content))) ≡ count_by (λ e. nat_eq e.1 n) (data_entries content)
count_content all k n (file bytes) is = times-from n [] refl
count_content all k n (directory entries) is = times-from n entries is ∙ sym (times-numbers n entries)
count_content all k n (link text) is = times-from n [] refl

count_nodes : (all : List NodeData) (k n : ℕ) (gs : List NodeData) → ((i : ℕ) → ForSome (slice_get gs i) HasDistinct)
    → sum_by (names_for n) (nodes_from all k gs) ≡ entry_count n gs
count_nodes all k n [] are = refl
count_nodes all k n (g ∷ gs) are =
    sum_by-cons (names_for n) (node_from all k g) (nodes_from all (k + 1) gs)
    ∙ ap (λ m. m + sum_by (names_for n) (nodes_from all (k + 1) gs)) (count_content all k n g.content (are 0 g refl))
    ∙ ap (λ m. count_by (λ e. nat_eq e.1 n) (data_entries g.content) + m) (count_nodes all (k + 1) n gs (λ i. are (suc i)))
    ∙ sym (sum_by-cons (λ (h : NodeData). count_by (λ e. nat_eq e.1 n) (data_entries h.content)) g gs)

distinct_names : (limits : Limits) (nodes : List NodeData) (n : ℕ) (content : ContentData)
    → IsFitContent limits nodes n content → are_distinct (texts (data_entries content)) ≡ true
distinct_names limits nodes n (file bytes) is = refl
distinct_names limits nodes n (directory entries) is = is.1
distinct_names limits nodes n (link text) is = refl

pub all_distinct : (limits : Limits) (nodes : List NodeData) → AreFit limits nodes → (n : ℕ) → ForSome (slice_get nodes n) HasDistinct
all_distinct limits nodes are n g at = distinct_names limits nodes n g.content ((are n).fit g at).1

pub count_is : (limits : Limits) (nodes : List NodeData) (n : ℕ) → AreFit limits nodes
    → name_count (tree_of nodes limits) n ≡ entry_count n nodes
unfolding tree_of
count_is limits nodes n are = count_nodes nodes 0 n nodes (all_distinct limits nodes are)

-- a node that is found is reached
pub name_at : (content : ContentData) (entry : List ℕ × ℕ) → are_distinct (texts (data_entries content)) ≡ true
    → Contains (data_entries content) entry → maps.get (data_names content) entry.0 ≡ Some entry.1
name_at (file bytes) entry is at = absurd (omega (arith, at.1))
name_at (directory entries) entry is at = maps.get-from_entries nat_list_cmp_total entries entry.0 ∙ find_held entries entry is at
name_at (link text) entry is at = absurd (omega (arith, at.1))

found_reached : (limits : Limits) (nodes : List NodeData) → AreFit limits nodes → (n : ℕ) → IsFound nodes n
    → Reached (tree_of nodes limits) (0 ∷ []) n
found_reached limits nodes are n at_zero = valid.root 0 (0, omega arith, refl)
found_reached limits nodes are n (by_entry d entry found at) =
    by (slice_get nodes d) refl at (found_reached limits nodes are d found)
  where
    by : (o : Option NodeData) → slice_get nodes d ≡ o → Contains (entries_held o) entry
        → Reached (tree_of nodes limits) (0 ∷ []) d → Reached (tree_of nodes limits) (0 ∷ []) entry.1
    by None is c before = absurd (omega (arith, c.1))
    by (Some g) is c before =
        let names : names_of (node_at (tree_of nodes limits) d).content ≡ data_names g.content =
        ap (λ (node : Node). names_of node.content) (node_is nodes limits d g is) ∙ names_of_data nodes d g.content in
        valid.held d entry.1 entry.0 before (ap (λ (m : Names). maps.get m entry.0) names ∙ name_at g.content entry (all_distinct limits nodes are d g is) c)

entries_valid : (limits : Limits) (nodes : List NodeData) (entries : List (List ℕ × ℕ))
    → list_all (is_fit_entry (length nodes)) entries ≡ true → All (IsEntry (tree_of nodes limits)) entries
entries_valid limits nodes [] are = All-nil (IsEntry (tree_of nodes limits))
entries_valid limits nodes (e ∷ entries) are =
    let parts = and_parts (is_fit_entry (length nodes) e) (list_all (is_fit_entry (length nodes)) entries) are in
    let ends = and_parts (is_entry_name e.0 && is_utf8 e.0) (nat_lt e.1 (length nodes)) parts.0 in
    let good = and_parts (is_entry_name e.0) (is_utf8 e.0) ends.0 in
    All-cons (IsEntry (tree_of nodes limits)) e entries
    (record { name = good.0; utf8 = IsUtf8-from_is_utf8 e.0 good.1; within = omega (arith, next_is nodes limits, ltb-true e.1 (length nodes) ends.1) })
    (entries_valid limits nodes entries parts.1)

placed : (limits : Limits) (nodes : List NodeData) (n : ℕ) (entries : List (List ℕ × ℕ)) → AreFit limits nodes
    → (node_at (tree_of nodes limits) n).content ≡ content_from nodes n (directory entries)
    → HasPlace nodes n entries → 0 < n → IsPlaced (tree_of nodes limits) n
placed limits nodes zero entries are is place positive = absurd (omega (arith, positive))
placed limits nodes (suc n) entries are is place positive =
    let count = count_is limits nodes (suc n) are in
    ⊎_elim
    (λ p. inl (
      count ∙ p.0,
      found_reached limits nodes are (suc n) p.1,
      ap is_gone is ∙ ap (λ k. not (nat_eq (suc n) 0) && nat_eq k 0) p.0 ∙ and-false (not (nat_eq (suc n) 0)),
    ))
    (λ p. inr (
      count ∙ p.0,
      ap names_of is ∙ ap names_from p.1,
      ap is_gone is ∙ ap (λ k. not (nat_eq (suc n) 0) && nat_eq k 0) p.0 ∙ ap (λ b. not b && true) (ne_eqb (suc n) 0 (λ e. omega (arith, e))),
    ))
    place

content_valid : (limits : Limits) (nodes : List NodeData) (n : ℕ) (content : ContentData) → AreFit limits nodes
    → (node_at (tree_of nodes limits) n).content ≡ content_from nodes n content
    → IsFitContent limits nodes n content → IsValidContent (tree_of nodes limits) n (content_from nodes n content)
content_valid limits nodes n (file bytes) are is fit =
    let parts = and_parts (are_bytes bytes) (nat_le (length bytes) largest_file) fit.0 in
    let links = subst (λ (l : Limits). entry_count n nodes ≤ l.links) (sym (limits_are nodes limits)) fit.1 in
    (parts.0, leb-true (length bytes) largest_file parts.1, sym (count_is limits nodes n are), links)
content_valid limits nodes n (directory entries) are is fit =
    (All-from (IsEntry (tree_of nodes limits)) entries fit.1 (entries_valid limits nodes entries fit.0), placed limits nodes n entries are is fit.2)
content_valid limits nodes n (link text) are is fit =
    let some = nat_lt 0 (length text) in
    let most = nat_le (length text) longest_link in
    let last = and_parts (some && most && is_utf8 text) (not (has_nul text)) fit.0 in
    let third = and_parts (some && most) (is_utf8 text) last.0 in
    let sizes = and_parts some most third.0 in
    let links = subst (λ (l : Limits). entry_count n nodes ≤ l.links) (sym (limits_are nodes limits)) fit.1 in (
      ltb-true 0 (length text) sizes.0,
      leb-true (length text) longest_link sizes.1,
      IsUtf8-from_is_utf8 text third.1,
      not-true (has_nul text) last.1,
      sym (count_is limits nodes n are),
      links,
    )

node_valid : (limits : Limits) (nodes : List NodeData) (n : ℕ) (g : NodeData) → AreFit limits nodes → slice_get nodes n ≡ Some g
    → IsValidContent (tree_of nodes limits) n (node_at (tree_of nodes limits) n).content
node_valid limits nodes n g are at =
    let is : (node_at (tree_of nodes limits) n).content ≡ content_from nodes n g.content = ap (λ (m : Node). m.content) (node_is nodes limits n g at) in
    subst (IsValidContent (tree_of nodes limits) n) (sym is) (content_valid limits nodes n g.content are is ((are n).fit g at).1)

-- node 0
record IsTop (nodes : List NodeData) : Type 0 where
  pub node : NodeData
  pub at : slice_get nodes 0 ≡ Some node
  pub is_dir : is_dir_content node.content ≡ true

top_of : (nodes : List NodeData) → starts_with_directory nodes ≡ true → IsTop nodes
top_of [] is = cc
top_of (g ∷ gs) is = record { node = g; at = refl; is_dir = is }

pub is_directory-node_data : (all : List NodeData) (k : ℕ) (content : ContentData)
    → is_directory (content_from all k content) ≡ is_dir_content content
is_directory-node_data all k (file bytes) = refl
is_directory-node_data all k (directory entries) = refl
is_directory-node_data all k (link text) = refl

top_nameless : (limits : Limits) (nodes : List NodeData) (content : ContentData) → is_dir_content content ≡ true
    → IsFitContent limits nodes 0 content → entry_count 0 nodes ≡ 0
top_nameless limits nodes (file bytes) is fit = cc
top_nameless limits nodes (directory entries) is fit = fit.2
top_nameless limits nodes (link text) is fit = cc

top_stays : (nodes : List NodeData) (content : ContentData) → is_gone (content_from nodes 0 content) ≡ false
top_stays nodes (file bytes) = refl
top_stays nodes (directory entries) = refl
top_stays nodes (link text) = refl

root_valid : (limits : Limits) (nodes : List NodeData) → AreFit limits nodes → IsRoot (tree_of nodes limits)
root_valid limits nodes are =
    let top : IsTop nodes = top_of nodes ((are 0).first refl) in
    let is : (node_at (tree_of nodes limits) 0).content ≡ content_from nodes 0 top.node.content = ap (λ (m : Node). m.content) (node_is nodes limits 0 top.node top.at) in
    record {
      directory = ap is_directory is ∙ is_directory-node_data nodes 0 top.node.content ∙ top.is_dir;
      nameless = count_is limits nodes 0 are ∙ top_nameless limits nodes top.node.content top.is_dir ((are 0).fit top.node top.at).1;
      stays = ap is_gone is ∙ top_stays nodes top.node.content;
    }

-- the last number is below the limit
few_nodes : (limits : Limits) (nodes : List NodeData) → AreFit limits nodes → length nodes ≤ limits.nodes
few_nodes limits [] are = omega arith
few_nodes limits (g ∷ gs) are =
    let last = ((are (length gs)).fit (slice_index_or (g ∷ gs) (length gs) g) (slice_get-get_or (g ∷ gs) (length gs) g (omega arith))).0 in
    omega (arith, last)

pub fit_is_valid : (limits : Limits) (nodes : List NodeData) → AreLimits limits → AreFit limits nodes
    → IsValidTree (tree_of nodes limits)
fit_is_valid limits nodes limited are = record {
  root = root_valid limits nodes are;
  nodes = λ n h.
      let top : IsTop nodes = top_of nodes ((are 0).first refl) in
      node_valid limits nodes n (slice_index_or nodes n top.node) are (slice_get-get_or nodes n top.node (subst (λ k. n < k) (next_is nodes limits) h));
  numbers =
      subst (λ (l : Limits). next_of (tree_of nodes limits) ≤ l.nodes) (sym (limits_are nodes limits)) (omega (arith, next_is nodes limits, few_nodes limits nodes are));
  limits = rw (limits_are nodes limits) limited;
}
