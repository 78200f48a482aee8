-- A node that a step makes, under a name of a directory.
use Rattle.std.proofs.Common.{◌≡◌, ◌≢◌, ℕ, suc, ◌+◌, ◌<◌, ◌≤◌, true, false, nat_eq, List, [], ◌∷◌, length, Some, None, inl, inr, refl, sym, ap, ◌∙◌, arith, zero-add, sum_by, slice_index_or, slice_set}
use Rattle.std.specs.List.{All}
use Rattle.std.specs.FinMap as maps
use Rattle.std.specs.Str.{IsUtf8}
use Rattle.std.proofs.lemmas.Bool.{true≢false, cases_eq, cases_lt, ne_eqb}
use Rattle.std.proofs.lemmas.List.Sums.{sum_by-cons, sum_by-set, sum_by-append}
use Rattle.wasi_host.specs.Tree.{Tree, Node, Content, File, Directory, Link, Names, node_at, next_of, names_of, is_directory, is_gone, stray}
use Rattle.wasi_host.specs.ValidTree.{has_nul, is_entry_name, names_for, name_count, Reached, held, IsEntry, IsValidContent, IsValidTree}
use Rattle.wasi_host.specs.Step.{with_name, new_file, new_directory, new_link, node_made, file_made, directory_made, link_made}
use Rattle.wasi_host.specs.Numbers.{longest_link}
use Rattle.wasi_host.proofs.Changes as changes
use Rattle.wasi_host.proofs.Changes.{directory_within}
use Rattle.wasi_host.proofs.EntryLemmas.{times, once, times-cons, numbers, entries-no_names, All-no_names, times-inserted, All-inserted, get-inserted, get-kept, nat_eq-refl}
use Rattle.wasi_host.proofs.Leaving.{named_in, no_name}
use Rattle.wasi_host.proofs.Carrying.{Carries, entries_still, content_still, directory_still, valid_still, reached_still, valid_entries, stays_or_gone}

-- ---- the next number has no name

-- a directory's entries hold nodes of the tree, and no others
unheld_in : (t : Tree) (es : List (List ℕ × ℕ)) → All (IsEntry t) es → (n : ℕ) → next_of t ≤ n
    → times n (numbers es) ≡ 0
unheld_in t [] all n past = refl
unheld_in t (e ∷ es) all n past =
    let first : IsEntry t e = all 0 e (omega arith) in
    let rest : All (IsEntry t) es = λ i d h. all (suc i) d (omega arith) in
    times-cons n e.1 (numbers es)
    ∙ ap (λ b. once b + times n (numbers es)) (ne_eqb e.1 n (λ same. omega (arith, first.within, past, same)))
    ∙ zero-add (times n (numbers es)) ∙ unheld_in t es rest n past

unheld_by : (t : Tree) (k : ℕ) (content : Content) → IsValidContent t k content → (n : ℕ) → next_of t ≤ n
    → times n (numbers (maps.entries (names_of content))) ≡ 0
unheld_by t k (File bytes links) v n past = ap (λ es. times n (numbers es)) entries-no_names
unheld_by t k (Directory names gone) v n past = unheld_in t (maps.entries names) v.0 n past
unheld_by t k (Link text links) v n past = ap (λ es. times n (numbers es)) entries-no_names

sum-none : (f : Node → ℕ) (nodes : List Node) → ((k : ℕ) → k < length nodes → f (slice_index_or nodes k stray) ≡ 0)
    → sum_by f nodes ≡ 0
sum-none f [] none = refl
sum-none f (node ∷ nodes) none =
    let first = none 0 (omega arith) in
    let rest = sum-none f nodes (λ k h. none (suc k) (omega arith)) in
    sum_by-cons f node nodes ∙ omega (arith, first, rest)

name_count-next : (t : Tree) → IsValidTree t → (n : ℕ) → next_of t ≤ n → name_count t n ≡ 0
unfolding node_at
name_count-next t valid n past = sum-none (names_for n) t.nodes (λ k h.
    unheld_by t k (slice_index_or t.nodes k stray).content (valid.nodes k h) n past)

-- ---- the tree with it

-- a name that a directory lacks, and can have
pub record Lacks (t : Tree) (d : ℕ) (name : List ℕ) : Type 0 where
  pub directory : is_directory (node_at t d).content ≡ true
  pub stays : is_gone (node_at t d).content ≡ false
  pub missing : maps.get (names_of (node_at t d).content) name ≡ None
  pub good : is_entry_name name ≡ true
  pub utf8 : IsUtf8 name

-- a node with one name, by which it is reached
pub record IsNamedOnce (t : Tree) (n : ℕ) : Type 0 where
  pub one : name_count t n ≡ 1
  pub reached : Reached t (0 ∷ []) n

module _ {t : Tree} {d : ℕ} {name : List ℕ} (lacks : Lacks t d name) (node : Node)
    (bare : names_of node.content ≡ maps.empty) where
  abbrev names : Names
  names = names_of (node_at t d).content

  abbrev parent : Node
  parent = with_name (node_at t d) name (next_of t)

  abbrev made : Tree
  made = node_made t d name node

  within_tree : d < next_of t
  within_tree = directory_within t d lacks.directory

  next_of-made : next_of made ≡ next_of t + 1
  next_of-made = changes.next_of-made t d name node within_tree

  node_at-parent : node_at made d ≡ parent
  node_at-parent = changes.node_at-parent t d name node within_tree

  node_at-apart : (k : ℕ) → k < next_of t → k ≢ d → node_at made k ≡ node_at t k
  node_at-apart k h other = changes.node_at-apart t d name node within_tree k h other

  name_count-made : (k : ℕ) → name_count made k ≡ once (nat_eq (next_of t) k) + name_count t k
  unfolding node_at
  name_count-made k =
      let none : names_for k node ≡ 0 =
      ap (λ (m : Names). times k (maps.values m)) bare ∙ ap (λ es. times k (numbers es)) entries-no_names in
      omega (
        arith,
        none,
        times-inserted names name (next_of t) lacks.missing k,
        sum_by-set (names_for k) t.nodes d parent stray within_tree,
        sum_by-append (names_for k) (slice_set t.nodes d parent) (node ∷ []),
        sum_by-cons (names_for k) node [],
      )

  still_named : (e n : ℕ) (q : List ℕ) → named_in (node_at t e) q ≡ Some n → named_in (node_at made e) q ≡ Some n
  still_named e n q is = elim (cases_lt e (next_of t)) [
    | inl within ↦ elim (cases_eq e d) [
      | inl here ↦ rw (here, node_at-parent) (get-kept names name (next_of t) lacks.missing q n (rw here at is))
      | inr other ↦ rw (node_at-apart e within other) is
    ]
    | inr past ↦ absurd (no_name q n (rw (changes.node_at-past t e past) at is))
  ]

  carries-made : (k : ℕ) → k < next_of t → Carries t made k
  carries-made k h = record {
    limits = refl;
    next = omega (arith, next_of-made);
    count =
        name_count-made k ∙ ap (λ b. once b + name_count t k) (ne_eqb (next_of t) k (λ same. omega (arith, h, same)))
        ∙ zero-add (name_count t k);
    reached = reached_still t made still_named k;
    directory = changes.node_at-kept t d name node within_tree (λ n. is_directory n.content) (sym lacks.directory) k h;
    gone = changes.node_at-kept t d name node within_tree (λ n. is_gone n.content) refl k h;
    emptied = λ gone.
        let other : k ≢ d = λ here. true≢false (sym (rw here at gone) ∙ lacks.stays) in
        ap (λ (n : Node). names_of n.content) (node_at-apart k h other);
  }

  module _ (valid : IsValidTree t) where
    -- the directory stays valid, and so does each other node
    valid-parent : IsValidContent made d parent.content
    valid-parent =
        let next : next_of t ≤ next_of made = omega (arith, next_of-made) in
        let entry : IsEntry made (name, next_of t) = record {
          name = lacks.good;
          utf8 = lacks.utf8;
          within = omega (arith, next_of-made);
        } in
        let others = entries_still t made (maps.entries names) next (valid_entries t d valid lacks.directory) in
        directory_still (carries-made d within_tree) (node_at t d).content (maps.insert names name (next_of t))
        lacks.directory (valid.nodes d within_tree)
        (All-inserted names name (next_of t) lacks.missing (IsEntry made) entry others)

    valid-kept : (k : ℕ) → k < next_of t → IsValidContent made k (node_at made k).content
    valid-kept k h = elim (cases_eq k d) [
      | inl here ↦ rw (here, node_at-parent) valid-parent
      | inr other ↦
          rw (node_at-apart k h other) (content_still (carries-made k h) (node_at t k).content (valid.nodes k h))
    ]

    -- the new node has the one name
    named_once : IsNamedOnce made (next_of t)
    named_once = record {
      one =
          name_count-made (next_of t) ∙ ap (λ b. once b + name_count t (next_of t)) (nat_eq-refl (next_of t))
          ∙ ap (λ n. 1 + n) (name_count-next t valid (next_of t) (omega arith));
      reached = elim (stays_or_gone t d valid lacks.directory) [
        | inl stays ↦
            held d (next_of t) name ((carries-made d within_tree).reached stays.1)
            (rw node_at-parent (get-inserted names name (next_of t) lacks.missing))
        | inr gone ↦ absurd (true≢false (sym gone.0 ∙ lacks.stays))
      ];
    }

    -- a node that is valid with one name keeps the tree valid
    pub valid-made : next_of t < t.limits.nodes
        → (IsNamedOnce made (next_of t) → IsValidContent made (next_of t) node.content) → IsValidTree made
    valid-made room fits =
        let some : 0 < next_of t = directory_within t 0 valid.root.directory in
        valid_still t made (carries-made 0 some) valid (omega (arith, next_of-made, room)) (λ k h.
        elim (cases_lt k (next_of t)) [
          | inl before ↦ valid-kept k before
          | inr after ↦
              let last : k ≡ next_of t = omega (arith, next_of-made, h, after) in
              rw (last, changes.node_at-made t d name node within_tree) (fits named_once)
        ])

-- ---- the three kinds

module _ {t : Tree} {d : ℕ} {name : List ℕ} (lacks : Lacks t d name) (valid : IsValidTree t)
    (room : next_of t < t.limits.nodes) where
  pub valid-file : IsValidTree (file_made t d name)
  valid-file = valid-made lacks new_file refl valid room (λ once.
      (refl, omega arith, sym once.one, valid.limits.some_links))

  pub valid-directory : IsValidTree (directory_made t d name)
  valid-directory =
      let made : Tree = directory_made t d name in
      let new = changes.node_at-made t d name new_directory (directory_within t d lacks.directory) in
      valid-made lacks new_directory refl valid room (λ once. (
        All-no_names (IsEntry made),
        λ positive. inl (once.one, once.reached, ap (λ (n : Node). is_gone n.content) new),
      ))

  pub valid-link : (text : List ℕ) → 0 < length text → length text ≤ longest_link → IsUtf8 text → has_nul text ≡ false
      → IsValidTree (link_made t d name text)
  valid-link text some short utf8 no_nul = valid-made lacks (new_link text) refl valid room (λ once.
      (some, short, utf8, no_nul, sym once.one, valid.limits.some_links))
