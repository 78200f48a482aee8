-- A tree whose directories have their names elsewhere: what its nodes are, and the tree once a node or a name is another one.
use Rattle.std.proofs.Common.{◌≡◌, ◌<◌, ℕ, Bool, true, List, [], ◌∷◌, ◌++◌, inl, inr, length, slice_index_or, slice_set, Option, refl, sym, ap, ◌∙◌, arith}
use Rattle.std.proofs.lemmas.List.{get_or_past}
use Rattle.std.proofs.lemmas.Bool.{cases_lt}
use Rattle.std.specs.FinMap as maps
use Rattle.std.specs.FinSet.{insert}
use Rattle.wasi_host.specs.Tree.{Tree, Node, Nodes, Names, Content, File, Directory, Link, node_at, next_of, stray, names_of, is_directory}
use Rattle.wasi_host.specs.Answer.{metadata_of, metadata_from}
use Rattle.wasi_host.specs.Step.{with_content, with_entry, without_entry, content_changed, node_made, with_times, times_set}
use Rattle.wasi_host.specs.declared.system_time.SystemTime.{SystemTime}
use Rattle.wasi_host.proofs.Changes.{changed, directory_within}
use Rattle.wasi_tree_index.specs.DirEntryKeys.{AllNames, names_at}
use Rattle.wasi_tree_index.proofs.NamesLemmas.{names_at-insert_other}
use Rattle.wasi_tree.specs.StoredTree.{with_names, named_content, named_from, AreBelow}
use Rattle.wasi_tree.proofs.NamedLemmas.{said_of-named, length-named, named_node, named_put, named_push, named_more, named_less, apart_from}
use Rattle.wasi_overlay.specs.OverStore.{Overlaid, OverlayParts, tree_over}

module _ (s : OverlayParts) where
  abbrev t : Tree
  t = tree_over s

  abbrev bare_at : ℕ → Node
  bare_at k = slice_index_or s.nodes k stray

  pub over_next : next_of t ≡ length s.nodes
  over_next = length-named s.names 0 s.nodes

  -- a node is the one of the list, with its names
  pub over_node : (k : ℕ) → k < length s.nodes → node_at t k ≡ with_names (names_at s.names k) (bare_at k)
  unfolding node_at
  over_node k within = named_node s.names s.nodes k stray within

  -- what is said of it without a look at its names
  pub over_says : {B : Type 0} (f : Content → B)
      → ((names old : Names) (gone : Bool) → f (Directory names gone) ≡ f (Directory old gone)) → (k : ℕ)
      → f (bare_at k).content ≡ f (node_at t k).content
  unfolding node_at
  over_says f same k = elim (cases_lt k (length s.nodes)) [
    | inl within ↦ sym (ap (λ (node : Node). f node.content) (over_node k within)
        ∙ said_of-named f same (names_at s.names k) (bare_at k).content)
    | inr past ↦ ap (λ (node : Node). f node.content)
        (get_or_past s.nodes k stray past ∙ sym (get_or_past (named_from s.names 0 s.nodes) k stray (omega (arith, over_next, past))))
  ]

  pub over_metadata : (k : ℕ) → k < length s.nodes → metadata_from k (bare_at k) ≡ metadata_of t k
  unfolding metadata_of
  over_metadata k within = sym (ap (metadata_from k) (over_node k within)
      ∙ said_of-named (λ c. let node : Node = record (bare_at k) { content = c } in metadata_from k node) (λ _ _ _. refl)
      (names_at s.names k) (bare_at k).content)

  pub over_bits : (k : ℕ) → k < length s.nodes → (bare_at k).bits ≡ (node_at t k).bits
  over_bits k within = sym (ap (λ (node : Node). node.bits) (over_node k within))

  -- ---- another node

  -- what f makes of a node of the list, it makes of the tree's
  pub over_set : (f : Node → Node) → ((names : Names) (node : Node) → with_names names (f node) ≡ f (with_names names node))
      → (n : ℕ) → n < length s.nodes → {now : Nodes}
      → tree_over (record s { nodes = slice_set s.nodes n (f (bare_at n)); worked = now }) ≡ changed t n (f (node_at t n)) now
  over_set f unnamed n within {now} = λ i.
      let u : Tree = record {
        nodes = (named_put s.names s.nodes n (f (bare_at n))
            ∙ ap (slice_set (named_from s.names 0 s.nodes) n) (unnamed (names_at s.names n) (bare_at n) ∙ sym (ap f (over_node n within)))) i;
        limits = s.limits;
        worked = now;
      } in u

  pub over_changed : (f : Content → Content)
      → ((names : Names) (c : Content) → named_content names (f c) ≡ f (named_content names c))
      → (n : ℕ) → n < length s.nodes
      → tree_over (record s { nodes = slice_set s.nodes n (with_content (bare_at n) f); worked = insert s.worked n }) ≡ content_changed t n f
  over_changed f unnamed n within =
      over_set (λ node. with_content node f)
      (λ names node. ap (λ (c : Content). let k : Node = record node { content = c } in k) (unnamed names node.content)) n within

  pub over_timed : (atime mtime : Option SystemTime) (n : ℕ) → n < length s.nodes
      → tree_over (record s { nodes = slice_set s.nodes n (with_times (bare_at n) atime mtime); worked = insert s.worked n })
      ≡ times_set t n atime mtime
  over_timed atime mtime n within = over_set (λ node. with_times node atime mtime) (λ names node. refl) n within

  -- ---- names

  module _ (d : ℕ) (directory : is_directory (node_at t d).content ≡ true) where
    within : d < length s.nodes
    within = omega (arith, directory_within t d directory, over_next)

    bare_directory : is_directory (bare_at d).content ≡ true
    bare_directory = over_says is_directory (λ _ _ _. refl) d ∙ directory

    node_is : slice_index_or (named_from s.names 0 s.nodes) d stray ≡ node_at t d
    unfolding node_at
    node_is = refl

    -- its names are those that have its number
    pub names_over : names_of (node_at t d).content ≡ names_at s.names d
    names_over = ap (λ (node : Node). names_of node.content) (over_node d within) ∙ by (bare_at d).content bare_directory
      where
        by : (c : Content) → is_directory c ≡ true → names_of (named_content (names_at s.names d) c) ≡ names_at s.names d
        by (File bytes links) test = absurd (cc)
        by (Directory names gone) test = refl
        by (Link text links) test = absurd (cc)

    pub over_put_name : (name : List ℕ) (v : ℕ)
        → tree_over (record s { names = maps.insert s.names (d, name) v; worked = insert s.worked d }) ≡ content_changed t d (with_entry name v)
    over_put_name name v = λ i.
        let u : Tree = record {
          nodes = (named_more s.names s.nodes d stray name v within bare_directory
              ∙ ap (λ node. slice_set (named_from s.names 0 s.nodes) d (with_content node (with_entry name v))) node_is) i;
          limits = s.limits;
          worked = insert s.worked d;
        } in u

    pub over_take_name : (name : List ℕ)
        → tree_over (record s { names = maps.remove s.names (d, name); worked = insert s.worked d }) ≡ content_changed t d (without_entry name)
    over_take_name name = λ i.
        let u : Tree = record {
          nodes = (named_less s.names s.nodes d stray name within bare_directory
              ∙ ap (λ node. slice_set (named_from s.names 0 s.nodes) d (with_content node (without_entry name))) node_is) i;
          limits = s.limits;
          worked = insert s.worked d;
        } in u

    -- a node more, which a name of the directory holds
    pub over_made : (name : List ℕ) (node : Node) → AreBelow s.names (length s.nodes)
        → with_names maps.empty node ≡ node → tree_over (record s {
          nodes = s.nodes ++ node ∷ [];
          names = maps.insert s.names (d, name) (length s.nodes);
          worked = insert (insert s.worked d) (length s.nodes);
        }) ≡ node_made t d name node
    over_made name node below bare =
        let count : length s.nodes ≡ next_of t = sym over_next in
        let all : AllNames = maps.insert s.names (d, name) (length s.nodes) in
        let none : names_at all (length s.nodes) ≡ maps.empty =
        names_at-insert_other s.names d (length s.nodes) name (length s.nodes) (apart_from d (length s.nodes) within)
        ∙ below.none (length s.nodes) (omega arith) in
        λ i. let u : Tree = record {
          nodes = (named_push all s.nodes node
              ∙ (λ j. (named_more s.names s.nodes d stray name (length s.nodes) within bare_directory
              ∙ (λ k. slice_set (named_from s.names 0 s.nodes) d (with_content (node_is k) (with_entry name (count k))))) j
              ++ (ap (λ (names : Names). with_names names node) none ∙ bare) j ∷ [])) i;
          limits = s.limits;
          worked = insert (insert s.worked d) (count i);
        } in u

-- what a store shows: a number within its tree is within its list
pub within_over : (s : OverlayParts) {touched held : Nodes} {o : Overlaid} {n : ℕ}
    → (let shown : Overlaid = record { tree = tree_over s; touched = touched; held = held } in shown) ≡ o → n < next_of o.tree
    → n < length s.nodes
within_over s is within = omega (arith, within, sym (ap (λ (o : Overlaid). next_of o.tree) is) ∙ over_next s)
