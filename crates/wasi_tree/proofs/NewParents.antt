-- In the tree of fit nodes, each directory stands where the entries say.
use Rattle.std.proofs.Common.{◌≡◌, ℕ, zero, suc, ◌+◌, ◌<◌, ◌≤◌, inl, inr, true, false, cond, List, [], ◌∷◌, map, length, slice_get, Option, Some, None, refl, sym, ap, ◌∙◌, arith}
use Rattle.std.specs.List.{Contains}
use Rattle.std.specs.Ordering.{nat_cmp, eq_by_cmp}
use Rattle.std.specs.Cmp.Lexicographic.{slice_cmp, nat_list_cmp_total}
use Rattle.std.specs.FinMap as maps
use Rattle.std.proofs.lemmas.Bool.{true≢false, cases_eq, cases_lt}
use Rattle.std.proofs.lemmas.List.Sums.{sum_by-set}
use Rattle.wasi_host.specs.Tree.{Tree, Node, Names, node_at, next_of, names_of, is_directory, stray}
use Rattle.wasi_host.specs.ValidTree.{names_for, name_count}
use Rattle.wasi_host.specs.Step.{without_name}
use Rattle.wasi_host.specs.declared.limits.Limits.{Limits}
use Rattle.wasi_host.proofs.Changes.{changed, directory_within, node_at-changed, node_at-other, node_at-past}
use Rattle.wasi_host.proofs.Leaving.{no_name}
use Rattle.wasi_host.proofs.EntryLemmas.{find_in, unnamed, once, times-removed, nat_eq-refl}
use Rattle.wasi_tree.specs.NodeData.{NodeData, ContentData, file, directory, link, data_entries, content_from, tree_of}
use Rattle.wasi_tree.specs.WellFormed.{entries_held, IsFitContent, AreFit}
use Rattle.wasi_tree.specs.ParentOf.{named_at, numbers_at, AreParents, TellParents}
use Rattle.wasi_tree.proofs.FitValid.{node_is, next_is, names_of_data, data_names, name_at, all_distinct, count_is}
use Rattle.wasi_tree.proofs.FoundLemmas.{entry_of}
use Rattle.wasi_tree.proofs.NewTreeLemmas.{content_named}
use Rattle.wasi_tree.proofs.ParentLemmas.{without_name_gone}
use Rattle.wasi_host.proofs.BelowLemmas.{names_directory}

-- ---- a node with one name has one holder

-- a name counts for the node that it holds
counted_name : (t : Tree) (d n : ℕ) (name : List ℕ) → named_at t d name ≡ Some n
    → name_count t n ≡ 1 + name_count (changed t d (without_name (node_at t d) name) t.worked) n
unfolding node_at
counted_name t d n name named =
    let within : d < next_of t = directory_within t d (names_directory (node_at t d).content name n named) in
    omega (
      arith,
      times-removed (names_of (node_at t d).content) name n named n,
      ap once (nat_eq-refl n),
      sum_by-set (names_for n) t.nodes d (without_name (node_at t d) name) stray within,
    )

pub one_holder : (t : Tree) (d e n : ℕ) (name other : List ℕ) → name_count t n ≤ 1 → named_at t d name ≡ Some n
    → named_at t e other ≡ Some n → (e ≡ d) × (other ≡ name)
one_holder t d e n name other few first second =
    let less : Tree = changed t d (without_name (node_at t d) name) t.worked in
    let within : d < next_of t = directory_within t d (names_directory (node_at t d).content name n first) in
    let gone : named_at less e other ≡ Some n → ⊥ = λ still.
    absurd (omega (arith, few, counted_name t d n name first, counted_name less e n other still)) in
    elim (cases_eq e d) [
      | inl here ↦ (
        here,
        without_name_gone (node_at t d) name other n (ap (λ k. named_at t k other) (sym here) ∙ second) (λ still.
            gone (ap (λ (x : Node). maps.get (names_of x.content) other)
            (ap (node_at less) here ∙ node_at-changed t d (without_name (node_at t d) name) t.worked within)
            ∙ still)),
      )
      | inr apart ↦ absurd (gone (ap (λ (x : Node). maps.get (names_of x.content) other)
          (node_at-other t d (without_name (node_at t d) name) t.worked within e apart)
          ∙ second))
    ]

-- ---- the names of a node are its entries

found_number : (name : List ℕ) (n : ℕ) (es : List (List ℕ × ℕ)) → find_in name es ≡ Some n
    → Contains (map (λ e. e.1) es) n
found_number name n [] is = absurd (cc)
found_number name n (e ∷ es) is =
    elim (eq_by_cmp (slice_cmp nat_cmp) name e.0) as (λ b.
    cond b (Some e.1) (find_in name es) ≡ Some n → Contains (e.1 ∷ map (λ f. f.1) es) n) [
      | true ↦ λ here. let same : e.1 ≡ n = cc in (0, omega arith, same)
      | false ↦ λ rest. let found = found_number name n es rest in (suc found.0, omega (arith, found.1), found.2)
    ] is

data_number : (content : ContentData) (name : List ℕ) (n : ℕ) → maps.get (data_names content) name ≡ Some n
    → Contains (map (λ e. e.1) (data_entries content)) n
data_number (file bytes) name n is = absurd (unnamed maps.empty name n refl is)
data_number (directory entries) name n is =
    found_number name n entries (sym (maps.get-from_entries nat_list_cmp_total entries name) ∙ is)
data_number (link text) name n is = absurd (unnamed maps.empty name n refl is)

few_names : (limits : Limits) (nodes : List NodeData) (n : ℕ) (content : ContentData) → AreFit limits nodes
    → is_directory (content_from nodes n content) ≡ true → IsFitContent limits nodes n content
    → name_count (tree_of nodes limits) n ≤ 1
few_names limits nodes n (file bytes) are is fit = absurd (true≢false (sym is))
few_names limits nodes zero (directory entries) are is fit = omega (arith, count_is limits nodes 0 are, fit.2)
few_names limits nodes (suc n) (directory entries) are is fit = elim fit.2 [
  | inl named ↦ omega (arith, count_is limits nodes (suc n) are, named.0)
  | inr removed ↦ omega (arith, count_is limits nodes (suc n) are, removed.0)
]
few_names limits nodes n (link text) are is fit = absurd (true≢false (sym is))

in_range : (nodes : List NodeData) (d : ℕ) → d < length nodes → slice_get nodes d ≡ None → ⊥
in_range [] d before none = absurd (omega (arith, before))
in_range (g ∷ gs) zero before none = absurd (cc)
in_range (g ∷ gs) (suc d) before none = in_range gs d (omega (arith, before)) none

module _ (limits : Limits) (nodes : List NodeData) (are : AreFit limits nodes) where
  abbrev made : Tree
  made = tree_of nodes limits

  -- a number without a node is past the end
  past : (d : ℕ) → slice_get nodes d ≡ None → next_of made ≤ d
  past d none = elim (cases_lt d (length nodes)) [
    | inl before ↦
        absurd (in_range nodes d before none)
    | inr after ↦ omega (arith, after, next_is nodes limits)
  ]

  names_at : (d : ℕ) (g : NodeData) → slice_get nodes d ≡ Some g → (q : List ℕ)
      → named_at made d q ≡ maps.get (data_names g.content) q
  names_at d g is q =
      ap (λ (node : Node). maps.get (names_of node.content) q) (node_is nodes limits d g is)
      ∙ ap (λ (m : Names). maps.get m q) (names_of_data nodes d g.content)

  number_of_name : (d n : ℕ) (q : List ℕ) → named_at made d q ≡ Some n → Contains (numbers_at nodes d) n
  number_of_name d n q named = by (slice_get nodes d) refl
    where
      by : (o : Option NodeData) → slice_get nodes d ≡ o → Contains (map (λ e. e.1) (entries_held o)) n
      by None is = absurd (no_name q n
          (ap (λ (x : Node). maps.get (names_of x.content) q) (sym (node_at-past made d (past d is))) ∙ named))
      by (Some g) is = data_number g.content q n (sym (names_at d g is q) ∙ named)

  name_of_number : (d n : ℕ) → Contains (numbers_at nodes d) n → (q : List ℕ) × (named_at made d q ≡ Some n)
  name_of_number d n has = by (slice_get nodes d) refl has
    where
      by : (o : Option NodeData) → slice_get nodes d ≡ o → Contains (map (λ e. e.1) (entries_held o)) n
          → (q : List ℕ) × (named_at made d q ≡ Some n)
      by None is none = absurd (omega (arith, none.1))
      by (Some g) is number =
          let e = entry_of (data_entries g.content) n number in
          (e.0.0, names_at d g is e.0.0 ∙ name_at g.content e.0 (all_distinct limits nodes are d g is) e.1 ∙ ap Some e.2)

  within : (d n : ℕ) (q : List ℕ) → named_at made d q ≡ Some n → n < length nodes
  within d n q named = by (slice_get nodes d) refl
    where
      by : (o : Option NodeData) → slice_get nodes d ≡ o → n < length nodes
      by None is = absurd (no_name q n
          (ap (λ (x : Node). maps.get (names_of x.content) q) (sym (node_at-past made d (past d is))) ∙ named))
      by (Some g) is =
          (content_named limits nodes d g.content ((are d).fit g is).1 q n
          (ap (λ (x : Node). maps.get (names_of x.content) q) (sym (node_is nodes limits d g is)) ∙ named)).0

  few : (n : ℕ) → is_directory (node_at made n).content ≡ true → name_count made n ≤ 1
  few n kind = by (slice_get nodes n) refl
    where
      by : (o : Option NodeData) → slice_get nodes n ≡ o → name_count made n ≤ 1
      by None is = absurd (true≢false
          (sym kind ∙ ap (λ (x : Node). is_directory x.content) (node_at-past made n (past n is))))
      by (Some g) is =
          few_names limits nodes n g.content are
          (ap (λ (x : Node). is_directory x.content) (sym (node_is nodes limits n g is)) ∙ kind)
          ((are n).fit g is).1

  pub new_parents : {parents : List (Option ℕ)} → TellParents nodes parents → AreParents made parents
  new_parents tell = record {
    len = tell.len ∙ sym (next_is nodes limits);
    within = λ d n q named. omega (arith, within d n q named, next_is nodes limits);
    up = λ d n q kind named.
        let given = tell.each d n (number_of_name d n q named) (within d n q named) in
        let holder = name_of_number given.0 n (tell.from given.0 n given.1) in
        given.1 ∙ ap Some (one_holder made d given.0 n q holder.0 (few n kind) named holder.1).0;
    down = λ d n kind is. name_of_number d n (tell.from d n is);
    once = λ d n q other kind first second. sym (one_holder made d d n q other (few n kind) first second).1;
  }
