-- The nodes of a valid tree, as a list gives them, keep the rules, and make that tree.
use Rattle.std.proofs.Common.{◌≡◌, ℕ, zero, suc, ◌+◌, ◌<◌, Bool, true, false, not, ◌&&◌, cond, inl, inr, List, [], ◌∷◌, map, length, slice_get, slice_index_or, nat_eq, nat_lt, sum_by, count_by, Some, refl, sym, ap, ◌∙◌, subst, arith, add-zero}
use Rattle.std.specs.Prelude.{T}
use Rattle.std.specs.List.{All, Contains, list_all, list_any}
use Rattle.std.specs.Ordering.{nat_cmp, is_lt, is_eq}
use Rattle.std.specs.declared.cmp.Ordering.{Ordering}
use Rattle.std.specs.declared.cmp.Ordering.TheVariants.{Less, Equal, Greater}
use Rattle.std.specs.Cmp.Lexicographic.{slice_cmp, nat_list_cmp_total}
use Rattle.std.specs.FinMap as maps
use Rattle.std.specs.FinSet as set
use Rattle.std.specs.Str.{bytes_eq}
use Rattle.std.proofs.Math.Bool.{and-false}
use Rattle.std.proofs.lemmas.Bool.{lt-ltb, le-leb, ne_eqb}
use Rattle.std.proofs.lemmas.List.{length-map}
use Rattle.std.proofs.lemmas.List.Sums.{sum_by-cons}
use Rattle.std.proofs.lemmas.Map.Text.{is_eq-slice_cmp}
use Rattle.std.proofs.lemmas.Slice.Eq.{bytes_eq-Decides}
use Rattle.std.proofs.lemmas.Str.{is_utf8-from_IsUtf8}
use Rattle.wasi_host.specs.Tree.{Tree, Node, Names, Content, File, Directory, Link, node_at, next_of, names_of, is_directory, is_gone, stray}
use Rattle.wasi_host.specs.ValidTree.{names_for, name_count, Reached, IsEntry, IsPlaced, IsValidContent, IsValidTree}
use Rattle.wasi_host.specs.ValidTree as valid
use Rattle.wasi_host.specs.declared.limits.TheConstants.{FILE_MAX, LINK_MAX}
use Rattle.wasi_host.proofs.EntryLemmas.{times, numbers, find_in, entries-no_names, both_hold}
use Rattle.wasi_tree.specs.NodeData.{NodeData, data_entries, entry_count, content_from, node_from, nodes_from, tree_of, data_of_content, data_of_node}
use Rattle.wasi_tree.specs.NodeDataTests.{is_dir_content, are_distinct, starts_with_directory}
use Rattle.wasi_tree.specs.WellFormed.{is_fit_entry, entries_held, entries_at, IsFound, at_zero, by_entry, HasPlace, IsFitContent, IsFit, AreFit}
use Rattle.wasi_tree.proofs.CountLemmas.{times-numbers}
use Rattle.wasi_tree.proofs.NodeDataNames.{texts}

-- ---- names, in order

-- the map of its own entries
pub made_again : (names : Names) → maps.from_entries (maps.entries names) ≡ names
made_again names =
    maps.same_map nat_list_cmp_total (maps.slice_cmp-IsAntisymmetric maps.nat_cmp-IsAntisymmetric) _ names (λ q.
    maps.get-from_entries nat_list_cmp_total (maps.entries names) q ∙ sym (maps.get-entries names q))

lesser : (r : Ordering) → T (is_lt r) → is_eq r ≡ false
lesser Less is = refl
lesser Equal is = absurd is
lesser Greater is = absurd is

-- a name below all of them is another
not_among : (name : List ℕ) (es : List (List ℕ × ℕ)) → T (maps.Entries.below_all (slice_cmp nat_cmp) name es)
    → list_any (bytes_eq name) (texts es) ≡ false
not_among name [] below = refl
not_among name (e ∷ es) below =
    let parts = both_hold (is_lt (slice_cmp nat_cmp name e.0)) (maps.Entries.below_all (slice_cmp nat_cmp) name es) below in
    let other : bytes_eq name e.0 ≡ false = sym (is_eq-slice_cmp name e.0) ∙ lesser (slice_cmp nat_cmp name e.0) parts.0 in
    rw other (not_among name es parts.1)

rising_distinct : (es : List (List ℕ × ℕ)) → T (maps.is_sorted (slice_cmp nat_cmp) es) → are_distinct (texts es) ≡ true
rising_distinct [] rising = refl
rising_distinct (e ∷ es) rising =
    let parts = both_hold (maps.Entries.below_all (slice_cmp nat_cmp) e.0 es) (maps.is_sorted (slice_cmp nat_cmp) es) rising in
    rw (not_among e.0 es parts.0) (rising_distinct es parts.1)

-- a name that is found stands there with its number
stands_at : (name : List ℕ) (n : ℕ) (es : List (List ℕ × ℕ)) → find_in name es ≡ Some n → Contains es (name, n)
stands_at name n [] is = absurd (cc)
stands_at name n (e ∷ es) is =
    elim (bytes_eq name e.0) as (λ b. bytes_eq name e.0 ≡ b → cond b (Some e.1) (find_in name es) ≡ Some n
    → Contains (e ∷ es) (name, n)) [
      | true ↦ λ same found.
          let text : e.0 ≡ name = sym ((bytes_eq-Decides name e.0).0 same) in
          let number : e.1 ≡ n = (cc) in
          (0, omega arith, λ i. (text i, number i))
      | false ↦ λ other found.
          let later = stands_at name n es found in
          (suc later.0, omega (arith, later.1), later.2)
    ] refl (rw (is_eq-slice_cmp name e.0) at is)

-- ---- nodes, as a list gives them

entries_of_data : (content : Content) → data_entries (data_of_content content) ≡ maps.entries (names_of content)
entries_of_data (File bytes links) = sym entries-no_names
entries_of_data (Directory names gone) = refl
entries_of_data (Link text links) = sym entries-no_names

count_listed : (n : ℕ) (nodes : List Node) → entry_count n (map data_of_node nodes) ≡ sum_by (names_for n) nodes
count_listed n [] = refl
count_listed n (x ∷ xs) =
    sum_by-cons (λ (g : NodeData). count_by (λ e. nat_eq e.1 n) (data_entries g.content)) (data_of_node x) (map data_of_node xs)
    ∙ ap (λ m. m + entry_count n (map data_of_node xs)) (times-numbers n (data_entries (data_of_content x.content))
    ∙ ap (λ es. times n (numbers es)) (entries_of_data x.content))
    ∙ ap (λ m. names_for n x + m) (count_listed n xs) ∙ sym (sum_by-cons (names_for n) x xs)

entries_listed : (nodes : List Node) (d : ℕ)
    → entries_held (slice_get (map data_of_node nodes) d) ≡ maps.entries (names_of (slice_index_or nodes d stray).content)
entries_listed [] d = sym entries-no_names
entries_listed (x ∷ xs) zero = entries_of_data x.content
entries_listed (x ∷ xs) (suc d) = entries_listed xs d

-- what a list gives at a number is a node of the tree
listed_at : (nodes : List Node) (n : ℕ) (g : NodeData) → slice_get (map data_of_node nodes) n ≡ Some g
    → (n < length nodes) × (data_of_node (slice_index_or nodes n stray) ≡ g)
listed_at [] n g at = absurd (cc)
listed_at (x ∷ xs) zero g at = (omega arith, (cc))
listed_at (x ∷ xs) (suc n) g at = let later = listed_at xs n g at in (omega (arith, later.0), later.1)

directory_of_data : (content : Content) → is_dir_content (data_of_content content) ≡ is_directory content
directory_of_data (File bytes links) = refl
directory_of_data (Directory names gone) = refl
directory_of_data (Link text links) = refl

starts_listed : (nodes : List Node) → is_directory (slice_index_or nodes 0 stray).content ≡ true
    → starts_with_directory (map data_of_node nodes) ≡ true
starts_listed [] is = absurd (cc)
starts_listed (x ∷ xs) is = directory_of_data x.content ∙ is

-- nodes that are the tree's one by one
nodes_again : (all : List NodeData) (k : ℕ) (nodes : List Node)
    → ((i : ℕ) → i < length nodes → node_from all (k + i) (data_of_node (slice_index_or nodes i stray)) ≡ slice_index_or nodes i stray)
    → nodes_from all k (map data_of_node nodes) ≡ nodes
nodes_again all k [] same = refl
nodes_again all k (x ∷ xs) same =
    let first : node_from all k (data_of_node x) ≡ x = ap (λ j. node_from all j (data_of_node x)) (sym (add-zero k)) ∙ same 0 (omega arith) in
    let rest : nodes_from all (k + 1) (map data_of_node xs) ≡ xs =
    nodes_again all (k + 1) xs (λ i short.
    ap (λ j. node_from all j (data_of_node (slice_index_or xs i stray))) (omega arith) ∙ same (suc i) (omega (arith, short))) in
    λ i. first i ∷ rest i

-- ---- of a valid tree

module _ (t : Tree) (valid_t : IsValidTree t) where
  abbrev all : List NodeData
  all = map data_of_node t.nodes

  count_is : (n : ℕ) → entry_count n all ≡ name_count t n
  count_is n = count_listed n t.nodes

  entries_are : (d : ℕ) → entries_at all d ≡ maps.entries (names_of (node_at t d).content)
  unfolding node_at
  entries_are d = entries_listed t.nodes d

  reached_found : (n : ℕ) → Reached t (0 ∷ []) n → IsFound all n
  reached_found n (valid.root m (zero, short, is)) = subst (IsFound all) is at_zero
  reached_found n (valid.root m (suc k, short, is)) = absurd (omega (arith, short))
  reached_found n (valid.held d m name reached is) =
      let names = maps.entries (names_of (node_at t d).content) in
      let stands : Contains names (name, m) = stands_at name m names (sym (maps.get-entries (names_of (node_at t d).content) name) ∙ is) in
      by_entry d (name, m) (reached_found d reached) (subst (λ es. Contains es (name, m)) (sym (entries_are d)) stands)

  entries_fit : (es : List (List ℕ × ℕ)) → All (IsEntry t) es → list_all (is_fit_entry (length all)) es ≡ true
  entries_fit [] are = refl
  entries_fit (e ∷ es) are =
      let first : IsEntry t e = are 0 e (omega arith) in
      let within : nat_lt e.1 (length all) ≡ true = lt-ltb e.1 (length all) (omega (arith, length-map t.nodes data_of_node, first.within)) in
      rw (first.name, is_utf8-from_IsUtf8 e.0 first.utf8, within) (entries_fit es (λ i d short. are (suc i) d (omega (arith, short))))

  place_kept : (n : ℕ) (names : Names) (gone : Bool) → (node_at t n).content ≡ Directory names gone
      → (0 < n → IsPlaced t n) → HasPlace all n (maps.entries names)
  place_kept zero names gone is placed = count_is 0 ∙ valid_t.root.nameless
  place_kept (suc n) names gone is placed = elim (placed (omega arith)) [
    | inl stands ↦ inl (count_is (suc n) ∙ stands.0, reached_found (suc n) stands.1)
    | inr removed ↦ inr (
      count_is (suc n) ∙ removed.0,
      ap (λ (c : Content). maps.entries (names_of c)) (sym is) ∙ ap (λ (m : Names). maps.entries m) removed.1 ∙ entries-no_names,
    )
  ]

  content_fit : (n : ℕ) (content : Content) → IsValidContent t n content → (node_at t n).content ≡ content
      → IsFitContent t.limits all n (data_of_content content)
  content_fit n (File bytes links) v is = (rw (v.0, le-leb (length bytes) FILE_MAX v.1) refl, omega (arith, count_is n, v.2, v.3))
  content_fit n (Directory names gone) v is =
      (entries_fit (maps.entries names) v.0, rising_distinct (maps.entries names) (maps.entries_sorted names), place_kept n names gone is v.1)
  content_fit n (Link text links) v is = (
    rw (lt-ltb 0 (length text) v.0, le-leb (length text) LINK_MAX v.1, is_utf8-from_IsUtf8 text v.2, v.3) refl,
    omega (arith, count_is n, v.4, v.5),
  )

  node_fit : (n : ℕ) → n < next_of t → IsFit t.limits all n (data_of_node (node_at t n))
  node_fit n short = (omega (arith, short, valid_t.numbers), content_fit n (node_at t n).content (valid_t.nodes n short) refl)

  pub nodes_fit : AreFit t.limits all
  unfolding node_at
  nodes_fit n = record {
    first = λ none. starts_listed t.nodes valid_t.root.directory;
    fit = λ g at.
        let is = listed_at t.nodes n g at in
        subst (IsFit t.limits all n) is.1 (node_fit n is.0);
  }

  gone_again : (n : ℕ) (names : Names) (gone : Bool) → (node_at t n).content ≡ Directory names gone
      → (0 < n → IsPlaced t n) → (not (nat_eq n 0) && nat_eq (entry_count n all) 0) ≡ gone
  gone_again zero names gone is placed = sym valid_t.root.stays ∙ ap is_gone is
  gone_again (suc n) names gone is placed =
      let by_count = λ (c : ℕ). not (nat_eq (suc n) 0) && nat_eq c 0 in
      elim (placed (omega arith)) [
        | inl stands ↦
            ap by_count (count_is (suc n) ∙ stands.0) ∙ and-false (not (nat_eq (suc n) 0))
            ∙ sym stands.2 ∙ ap is_gone is
        | inr removed ↦
            ap by_count (count_is (suc n) ∙ removed.0) ∙ ap (λ b. not b && true) (ne_eqb (suc n) 0 (λ e. omega (arith, e)))
            ∙ sym removed.2 ∙ ap is_gone is
      ]

  content_again : (n : ℕ) (content : Content) → IsValidContent t n content → (node_at t n).content ≡ content
      → content_from all n (data_of_content content) ≡ content
  content_again n (File bytes links) v is = ap (File bytes) (count_is n ∙ sym v.2)
  content_again n (Directory names gone) v is = λ i. Directory (made_again names i) (gone_again n names gone is v.1 i)
  content_again n (Link text links) v is = ap (Link text) (count_is n ∙ sym v.4)

  node_again : (n : ℕ) → n < next_of t → node_from all n (data_of_node (node_at t n)) ≡ node_at t n
  node_again n short =
      let content = content_again n (node_at t n).content (valid_t.nodes n short) refl in
      λ i. record (node_at t n) { content = content i }

  pub tree_again : tree_of all t.limits ≡ record t { worked = set.empty }
  unfolding tree_of node_at
  tree_again =
      let nodes : nodes_from all 0 all ≡ t.nodes = nodes_again all 0 t.nodes (λ i short.
      ap (λ j. node_from all j (data_of_node (node_at t i))) (omega arith) ∙ node_again i short) in
      λ i. record t { nodes = nodes i; worked = set.empty }
