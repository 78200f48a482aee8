-- Trees in which one node is another, and trees with one node more.
use Rattle.std.proofs.Common.{◌≡◌, ◌≢◌, ℕ, ◌+◌, ◌<◌, ◌≤◌, true, List, [], ◌∷◌, inl, inr, refl, sym, ap, ◌∙◌, arith, nat_eq, slice_index_or, slice_set}
use Rattle.std.proofs.Math.Seq.{get_or-append_seam}
use Rattle.std.proofs.lemmas.Bool.{true≢false, cases_eq, cases_lt}
use Rattle.std.proofs.lemmas.List.{length-set, length-append, get_or-set_same, get_or-set_other, get_or_append_left, get_or_past}
use Rattle.std.proofs.lemmas.List.Sums.{sum_by-set}
use Rattle.std.specs.FinMap as maps
use Rattle.std.specs.Prelude.{count_by}
use Rattle.wasi_host.specs.Tree.{Tree, Node, Nodes, Names, Content, names_of, node_at, next_of, is_directory, stray}
use Rattle.wasi_host.specs.ValidTree.{names_for, name_count}
use Rattle.wasi_host.specs.Step.{with_nodes, with_content, content_changed, entry_changed, with_name, node_made}

pub node_at-past : (t : Tree) (n : ℕ) → next_of t ≤ n → node_at t n ≡ stray
unfolding node_at
node_at-past t n past = get_or_past t.nodes n stray past

-- a directory's number is in the tree
pub directory_within : (t : Tree) (n : ℕ) → is_directory (node_at t n).content ≡ true → n < next_of t
directory_within t n directory = elim (cases_lt n (next_of t)) [
  | inl within ↦ within
  | inr past ↦ absurd (true≢false (sym directory ∙ ap (λ k. is_directory k.content) (node_at-past t n past)))
]

-- ---- one node is another

-- the node of a number is another one, and these nodes are worked on
abbrev pub changed : Tree → ℕ → Node → Nodes → Tree
changed t n node worked = record t { nodes = slice_set t.nodes n node; worked = worked }

pub next_of-changed : (t : Tree) (n : ℕ) (node : Node) (worked : Nodes)
    → next_of (changed t n node worked) ≡ next_of t
next_of-changed t n node worked = length-set t.nodes n node

module _ (t : Tree) (n : ℕ) (node : Node) (worked : Nodes) (within : n < next_of t) where
  pub node_at-changed : node_at (changed t n node worked) n ≡ node
  unfolding node_at
  node_at-changed = get_or-set_same t.nodes n node stray within

  pub node_at-other : (k : ℕ) → k ≢ n → node_at (changed t n node worked) k ≡ node_at t k
  unfolding node_at
  node_at-other k other = get_or-set_other t.nodes n k node stray other

  -- what the new node has of the old one stays everywhere
  pub node_at-same : {B : Type 0} (f : Node → B) → f node ≡ f (node_at t n) → (k : ℕ)
      → f (node_at (changed t n node worked) k) ≡ f (node_at t k)
  node_at-same f same k = elim (cases_eq k n) [
    | inl here ↦ ap (λ j. f (node_at (changed t n node worked) j)) here ∙ ap f node_at-changed ∙ same
        ∙ ap (λ j. f (node_at t j)) (sym here)
    | inr other ↦ ap f (node_at-other k other)
  ]

-- ---- two nodes are others

pub record HasBoth (t u : Tree) (d n : ℕ) (parent other : Node) : Type 0 where
  pub limits : u.limits ≡ t.limits
  pub next : next_of u ≡ next_of t
  pub first : node_at u d ≡ parent
  pub second : node_at u n ≡ other
  pub others : (k : ℕ) → k ≢ d → k ≢ n → node_at u k ≡ node_at t k
  -- how many names hold a node, where the second keeps its names
  pub counts : names_of other.content ≡ names_of (node_at t n).content → (k : ℕ)
      → name_count u k + names_for k (node_at t d) ≡ name_count t k + names_for k parent

module _ (t : Tree) (d n : ℕ) (parent other : Node) (worked : Nodes) (first : d < next_of t) (second : n < next_of t)
    (apart : d ≢ n) where
  -- before the second
  abbrev half : Tree
  half = changed t d parent worked

  abbrev both : Tree
  both = changed half n other worked

  half_within : n < next_of half
  half_within = omega (arith, second, next_of-changed t d parent worked)

  node_at-not : (k : ℕ) → k ≢ n → node_at both k ≡ node_at half k
  node_at-not k not_second = node_at-other half n other worked half_within k not_second

  name_count-both : names_of other.content ≡ names_of (node_at t n).content → (k : ℕ)
      → name_count both k + names_for k (node_at t d) ≡ name_count t k + names_for k parent
  unfolding node_at
  name_count-both keeps k =
      let same : names_for k other ≡ names_for k (node_at t n) =
      ap (λ (names : Names). count_by (λ held. nat_eq held k) (maps.values names)) keeps in
      let before : names_for k (node_at half n) ≡ names_for k (node_at t n) =
      ap (names_for k) (node_at-other t d parent worked first n (λ here. apart (sym here))) in
      omega (
        arith,
        same,
        before,
        sum_by-set (names_for k) t.nodes d parent stray first,
        sum_by-set (names_for k) half.nodes n other stray half_within,
      )

  pub has_both : HasBoth t both d n parent other
  has_both = record {
    limits = refl;
    next = next_of-changed half n other worked ∙ next_of-changed t d parent worked;
    first = node_at-not d apart ∙ node_at-changed t d parent worked first;
    second = node_at-changed half n other worked half_within;
    others = λ k not_first not_second. node_at-not k not_second ∙ node_at-other t d parent worked first k not_first;
    counts = name_count-both;
  }

-- the entries of a directory are changed, and then the content of another node
pub changed_apart : (t : Tree) (d n : ℕ) (entries change : Content → Content) → d < next_of t → n ≢ d
    → content_changed (content_changed t d entries) n change ≡ entry_changed t d entries n change
changed_apart t d n entries change within apart =
    ap (λ (node : Node). record t {
      nodes = slice_set (slice_set t.nodes d (with_content (node_at t d) entries)) n (with_content node change);
      worked = with_nodes t.worked (d ∷ n ∷ []);
    })
    (node_at-other t d (with_content (node_at t d) entries) (with_nodes t.worked (d ∷ [])) within n apart)

-- ---- one node more, under a name of a directory

module _ (t : Tree) (d : ℕ) (name : List ℕ) (node : Node) (within : d < next_of t) where
  abbrev parent : Node
  parent = with_name (node_at t d) name (next_of t)

  abbrev made : Tree
  made = node_made t d name node

  pub next_of-made : next_of made ≡ next_of t + 1
  next_of-made = omega (arith, length-append (slice_set t.nodes d parent) (node ∷ []), length-set t.nodes d parent)

  node_at-before : (k : ℕ) → k < next_of t → node_at made k ≡ node_at (changed t d parent made.worked) k
  unfolding node_at
  node_at-before k h =
      get_or_append_left (slice_set t.nodes d parent) (node ∷ []) stray k
      (omega (arith, h, length-set t.nodes d parent))

  pub node_at-parent : node_at made d ≡ parent
  node_at-parent = node_at-before d within ∙ node_at-changed t d parent made.worked within

  pub node_at-apart : (k : ℕ) → k < next_of t → k ≢ d → node_at made k ≡ node_at t k
  node_at-apart k h other = node_at-before k h ∙ node_at-other t d parent made.worked within k other

  pub node_at-made : node_at made (next_of t) ≡ node
  unfolding node_at
  node_at-made =
      ap (λ k. slice_index_or made.nodes k stray) (sym (length-set t.nodes d parent))
      ∙ get_or-append_seam (slice_set t.nodes d parent) node [] stray

  -- what the directory keeps stays everywhere
  pub node_at-kept : {B : Type 0} (f : Node → B) → f parent ≡ f (node_at t d) → (k : ℕ) → k < next_of t
      → f (node_at made k) ≡ f (node_at t k)
  node_at-kept f same k h = ap f (node_at-before k h) ∙ node_at-same t d parent made.worked within f same k
