-- A name that moves: the step, in an order in which all room is taken first.
use Rattle.std.proofs.Common.{◌≡◌, ◌≢◌, ℕ, ◌<◌, Bool, true, false, cond, nat_eq, List, [], ◌∷◌, Option, Some, None, inl, inr, refl, sym, ap, ◌∙◌, arith}
use Rattle.std.proofs.lemmas.Bool.{true≢false, cases_eq, eqb-true, eq-eqb, ne_eqb}
use Rattle.std.proofs.lemmas.Bool.Decides.{nat_tests}
use Rattle.std.proofs.lemmas.List.{ext_get_or}
use Rattle.std.specs.Cmp.{nat_cmp_total}
use Rattle.std.specs.Cmp.Lexicographic.{slice_cmp, nat_list_cmp_total}
use Rattle.std.specs.FinMap as maps
use Rattle.std.specs.FinSet.{members, same_set, nat_cmp-IsAntisymmetric}
use Rattle.std.specs.Ordering.{nat_cmp, eq_by_cmp}
use Rattle.wasi_host.specs.Tree.{Tree, Node, Nodes, Names, Directory, node_at, next_of, names_of, is_directory, is_gone, stray}
use Rattle.wasi_host.specs.Step.{with_nodes, with_content, with_entry, without_entry, content_changed, with_name, without_name, name_dropped, name_lost, name_moved_onto}
use Rattle.wasi_host.proofs.Changes.{changed, directory_within, next_of-changed, node_at-changed, node_at-other, node_at-same}
use Rattle.wasi_host.proofs.EntryLemmas.{nat_eq-refl}
use Rattle.wasi_tree.specs.ParentOf.{named_at}
use Rattle.wasi_tree.specs.Move.{IsMove, found_lost}
use Rattle.wasi_tree.proofs.TextEntries.{same_name}
use Rattle.wasi_tree_index.proofs.NamesLemmas.{same_names}

-- ---- names

tie : List ℕ → List ℕ → Bool
tie q name = eq_by_cmp (slice_cmp nat_cmp) q name

-- a name that goes before it is put is only put
put_again : (names : Names) (name : List ℕ) (n : ℕ)
    → maps.insert (maps.remove names name) name n ≡ maps.insert names name n
unfolding tie
put_again names name n = same_names _ _ (λ q.
    maps.get-insert nat_list_cmp_total (maps.remove names name) name n q
    ∙ ap (cond (tie q name) (Some n)) (maps.get-remove nat_list_cmp_total names name q)
    ∙ pick (tie q name) (maps.get names q) ∙ sym (maps.get-insert nat_list_cmp_total names name n q))
  where
    pick : (b : Bool) (found : Option ℕ) → cond b (Some n) (cond b None found) ≡ cond b (Some n) found
    pick true found = refl
    pick false found = refl

-- of two names, one may be put before the other goes
put_before : (names : Names) (name other : List ℕ) (n : ℕ) → other ≢ name
    → maps.remove (maps.insert names name n) other ≡ maps.insert (maps.remove names other) name n
unfolding tie
put_before names name other n apart = same_names _ _ (λ q.
    maps.get-remove nat_list_cmp_total (maps.insert names name n) other q
    ∙ ap (cond (tie q other) None) (maps.get-insert nat_list_cmp_total names name n q)
    ∙ pick (tie q other) (tie q name) (maps.get names q)
    (λ first second. apart (sym (same_name q other first) ∙ same_name q name second))
    ∙ sym (maps.get-insert nat_list_cmp_total (maps.remove names other) name n q
    ∙ ap (cond (tie q name) (Some n)) (maps.get-remove nat_list_cmp_total names other q)))
  where
    pick : (b c : Bool) (found : Option ℕ) → (b ≡ true → c ≡ true → ⊥)
        → cond b None (cond c (Some n) found) ≡ cond c (Some n) (cond b None found)
    pick true true found never = absurd (never refl refl)
    pick true false found never = refl
    pick false c found never = refl

-- so too of a directory
abbrev with_names : Node → Names → Node
with_names node names = record node { content = Directory names (is_gone node.content) }

named_again : (node : Node) (name : List ℕ) (n : ℕ) → with_name (without_name node name) name n ≡ with_name node name n
named_again node name n = ap (with_names node) (put_again (names_of node.content) name n)

named_before : (node : Node) (name other : List ℕ) (n : ℕ) → other ≢ name
    → without_name (with_name node name n) other ≡ with_name (without_name node other) name n
named_before node name other n apart = ap (with_names node) (put_before (names_of node.content) name other n apart)

-- ---- nodes

-- the node of each number, where one is another
at_changed : (t : Tree) (d : ℕ) (node : Node) (worked : Nodes) → d < next_of t → (k : ℕ)
    → node_at (changed t d node worked) k ≡ cond (nat_eq k d) node (node_at t k)
at_changed t d node worked within k = elim (cases_eq k d) [
  | inl here ↦
      ap (node_at (changed t d node worked)) here ∙ node_at-changed t d node worked within
      ∙ sym (ap (λ b. cond b node (node_at t k)) (eq-eqb k d here))
  | inr other ↦
      node_at-other t d node worked within k other
      ∙ sym (ap (λ b. cond b node (node_at t k)) (ne_eqb k d other))
]

-- the tree in which the new name is put, beside the one in which it is dropped; the lost node is the same in both
pub record AreBeside (t put gone : Tree) (old new n : ℕ) (name : List ℕ) (is_lost : ℕ → Bool) (lost bare : Node) : Type 0
  where
    pub put_at : (k : ℕ) → node_at put k
        ≡ cond (is_lost k) lost (cond (nat_eq k new) (with_name (node_at t new) name n) (node_at t k))
    pub gone_at : (k : ℕ) → node_at gone k ≡ cond (is_lost k) lost (cond (nat_eq k new) bare (node_at t k))
    pub same : with_name bare name n ≡ with_name (node_at t new) name n
    pub not_old : is_lost old ≡ false
    pub not_new : is_lost new ≡ false
    pub put_next : next_of put ≡ next_of t
    pub gone_next : next_of gone ≡ next_of t

module _ {t put gone : Tree} {old new n : ℕ} {old_name name : List ℕ} {is_lost : ℕ → Bool} {lost bare : Node}
    (are : AreBeside t put gone old new n name is_lost lost bare) (first : old < next_of t) (second : new < next_of t)
    (apart : old ≡ new → old_name ≢ name) (put_worked half_worked worked : Nodes) where
  abbrev with_new : Node
  with_new = with_name (node_at t new) name n

  abbrev put_source : Node
  put_source = without_name (node_at put old) old_name

  abbrev source : Node
  source = without_name (node_at gone old) old_name

  abbrev half : Tree
  half = changed gone old source half_worked

  abbrev target : Node
  target = with_name (node_at half new) name n

  abbrev room_first : Tree
  room_first = changed put old put_source put_worked

  abbrev in_order : Tree
  in_order = changed half new target worked

  put_old : node_at put old ≡ cond (nat_eq old new) with_new (node_at t old)
  put_old = are.put_at old ∙ ap (λ b. cond b lost (cond (nat_eq old new) with_new (node_at t old))) are.not_old

  gone_old : node_at gone old ≡ cond (nat_eq old new) bare (node_at t old)
  gone_old = are.gone_at old ∙ ap (λ b. cond b lost (cond (nat_eq old new) bare (node_at t old))) are.not_old

  gone_new : node_at gone new ≡ bare
  gone_new =
      are.gone_at new ∙ ap (λ b. cond b lost (cond (nat_eq new new) bare (node_at t new))) are.not_new
      ∙ ap (λ b. cond b bare (node_at t new)) (nat_eq-refl new)

  half_new : node_at half new ≡ cond (nat_eq new old) source (node_at gone new)
  half_new = at_changed gone old source half_worked (omega (arith, first, are.gone_next)) new

  -- both names in one directory
  in_one : old ≡ new → put_source ≡ target
  in_one here =
      ap (λ x. without_name x old_name)
      (put_old ∙ ap (λ b. cond b with_new (node_at t old)) (eq-eqb old new here) ∙ sym are.same)
      ∙ named_before bare name old_name n (apart here)
      ∙ sym (ap (λ x. with_name x name n)
      (half_new ∙ ap (λ b. cond b source (node_at gone new)) (eq-eqb new old (sym here))
      ∙ ap (λ x. without_name x old_name)
      (gone_old ∙ ap (λ b. cond b bare (node_at t old)) (eq-eqb old new here))))

  -- in two
  in_two : old ≢ new → (put_source ≡ source) × (with_new ≡ target)
  in_two other = (
    ap (λ x. without_name x old_name)
        (put_old ∙ ap (λ b. cond b with_new (node_at t old)) (ne_eqb old new other)
        ∙ sym (gone_old ∙ ap (λ b. cond b bare (node_at t old)) (ne_eqb old new other))),
    sym are.same
        ∙ sym (ap (λ x. with_name x name n)
        (half_new ∙ ap (λ b. cond b source (node_at gone new)) (ne_eqb new old (λ here. other (sym here))) ∙ gone_new)),
  )

  pick : (b c l : Bool) (x : Node) → (b ≡ true → c ≡ true → put_source ≡ target)
      → (b ≡ true → c ≡ false → put_source ≡ source) → (b ≡ false → c ≡ true → (l ≡ false) × (with_new ≡ target))
      → cond b put_source (cond l lost (cond c with_new x)) ≡ cond c target (cond b source (cond l lost (cond c bare x)))
  pick true true l x one two three = one refl refl
  pick true false l x one two three = two refl refl
  pick false true l x one two three =
      let not_lost = three refl refl in ap (λ b. cond b lost with_new) not_lost.0 ∙ not_lost.1
  pick false false l x one two three = refl

  each_node : (k : ℕ) → node_at room_first k ≡ node_at in_order k
  each_node k =
      at_changed put old put_source put_worked (omega (arith, first, are.put_next)) k
      ∙ ap (cond (nat_eq k old) put_source) (are.put_at k)
      ∙ pick (nat_eq k old) (nat_eq k new) (is_lost k) (node_at t k)
      (λ one two. in_one (sym (eqb-true k old one) ∙ eqb-true k new two))
      (λ one two. (in_two (λ here. true≢false (sym (eq-eqb k new (eqb-true k old one ∙ here)) ∙ two))).0)
      (λ one two. (
        ap is_lost (eqb-true k new two) ∙ are.not_new,
        (in_two (λ here. true≢false (sym (eq-eqb k old (eqb-true k new two ∙ sym here)) ∙ one))).1,
      ))
      ∙ sym (at_changed half new target worked
      (omega (arith, second, are.gone_next, next_of-changed gone old source half_worked)) k
      ∙ ap (cond (nat_eq k new) target)
      (at_changed gone old source half_worked (omega (arith, first, are.gone_next)) k
      ∙ ap (cond (nat_eq k old) source) (are.gone_at k)))

  pub nodes_moved : room_first.nodes ≡ in_order.nodes
  unfolding node_at
  nodes_moved =
      ext_get_or stray room_first.nodes in_order.nodes
      (omega (
        arith,
        next_of-changed put old put_source put_worked,
        next_of-changed half new target worked,
        next_of-changed gone old source half_worked,
        are.put_next,
        are.gone_next,
      ))
      (λ k within. each_node k)

-- ---- the step

module _ (t : Tree) (old new n : ℕ) (old_name new_name : List ℕ) where
  pub names_apart : {there : Option ℕ} → IsMove t old old_name new new_name n there → old ≡ new → old_name ≢ new_name
  names_apart is here same =
      is.other (sym is.onto ∙ (λ i. named_at t (sym here i) (sym same i)) ∙ is.named)

  abbrev new_put : Tree
  new_put = content_changed t new (with_entry new_name n)

  beside_none : IsMove t old old_name new new_name n None
      → AreBeside t new_put t old new n new_name (λ k. false) stray (node_at t new)
  beside_none is = record {
    put_at = at_changed t new (with_name (node_at t new) new_name n) new_put.worked (directory_within t new is.to);
    gone_at = λ k. elim (cases_eq k new) [
      | inl here ↦
          ap (node_at t) here ∙ sym (ap (λ b. cond b (node_at t new) (node_at t k)) (eq-eqb k new here))
      | inr other ↦ sym (ap (λ b. cond b (node_at t new) (node_at t k)) (ne_eqb k new other))
    ];
    same = refl;
    not_old = refl;
    not_new = refl;
    put_next = next_of-changed t new (with_name (node_at t new) new_name n) new_put.worked;
    gone_next = refl;
  }

  abbrev lost_node : ℕ → Node
  lost_node m = with_content (node_at t m) name_lost

  beside_some : {m : ℕ} → IsMove t old old_name new new_name n (Some m)
      → AreBeside t (content_changed new_put m name_lost) (name_dropped t new new_name name_lost m) old new n new_name
      (λ k. nat_eq k m) (lost_node m) (without_name (node_at t new) new_name)
  beside_some {m} is =
      let apart = is.lost m refl in
      let to = directory_within t new is.to in
      let put_node : Node = with_name (node_at t new) new_name n in
      let bare : Node = without_name (node_at t new) new_name in
      let first : Tree = changed t new bare t.worked in
      let put_same : node_at new_put m ≡ node_at t m = node_at-other t new put_node new_put.worked to m apart.2 in
      let put_lost : Node = with_content (node_at new_put m) name_lost in
      let same_lost : put_lost ≡ lost_node m =
      ap (λ (x : Node). with_content x name_lost) put_same in
      record {
        put_at = λ k.
            at_changed new_put m put_lost (content_changed new_put m name_lost).worked
            (omega (arith, apart.0, next_of-changed t new put_node new_put.worked)) k
            ∙ (λ i. cond (nat_eq k m) (same_lost i) (at_changed t new put_node new_put.worked to k i));
        gone_at = λ k.
            at_changed first m (lost_node m) (name_dropped t new new_name name_lost m).worked
            (omega (arith, apart.0, next_of-changed t new bare t.worked)) k
            ∙ ap (cond (nat_eq k m) (lost_node m)) (at_changed t new bare t.worked to k);
        same = named_again (node_at t new) new_name n;
        not_old = ne_eqb old m (λ here. apart.1 (sym here));
        not_new = ne_eqb new m (λ here. apart.2 (sym here));
        put_next =
            next_of-changed new_put m put_lost (content_changed new_put m name_lost).worked
            ∙ next_of-changed t new put_node new_put.worked;
        gone_next =
            next_of-changed first m (lost_node m) (name_dropped t new new_name name_lost m).worked
            ∙ next_of-changed t new bare t.worked;
      }

  worked_none : with_nodes (with_nodes t.worked (new ∷ [])) (old ∷ []) ≡ with_nodes t.worked (old ∷ new ∷ [])
  worked_none = same_set nat_cmp_total nat_cmp-IsAntisymmetric _ _ (λ q. grind (arith, members, nat_tests))

  worked_some : (m : ℕ) → with_nodes (with_nodes (with_nodes t.worked (new ∷ [])) (m ∷ [])) (old ∷ [])
      ≡ with_nodes (with_nodes t.worked (new ∷ m ∷ [])) (old ∷ new ∷ [])
  worked_some m = same_set nat_cmp_total nat_cmp-IsAntisymmetric _ _ (λ q. grind (arith, members, nat_tests))

  pub moved_as : (there : Option ℕ) → IsMove t old old_name new new_name n there
      → content_changed (found_lost new_put there) old (without_entry old_name)
      ≡ name_moved_onto t old old_name new new_name n there
  moved_as None is = λ i.
      let u : Tree = record {
        nodes = nodes_moved (beside_none is) (directory_within t old is.from) (directory_within t new is.to) (names_apart is)
            (with_nodes new_put.worked (old ∷ [])) t.worked (with_nodes t.worked (old ∷ new ∷ [])) i;
        limits = t.limits;
        worked = worked_none i;
      } in u
  moved_as (Some m) is = λ i.
      let u : Tree = record {
        nodes = nodes_moved (beside_some is) (directory_within t old is.from) (directory_within t new is.to) (names_apart is)
            (with_nodes (content_changed new_put m name_lost).worked (old ∷ []))
            (name_dropped t new new_name name_lost m).worked
            (with_nodes (name_dropped t new new_name name_lost m).worked (old ∷ new ∷ [])) i;
        limits = t.limits;
        worked = worked_some m i;
      } in u

  put_kind : {there : Option ℕ} → IsMove t old old_name new new_name n there → (k : ℕ)
      → is_directory (node_at new_put k).content ≡ is_directory (node_at t k).content
  put_kind is k =
      node_at-same t new (with_name (node_at t new) new_name n) new_put.worked (directory_within t new is.to)
      (λ x. is_directory x.content) (sym is.to) k

  -- the directory that loses the name is one still
  pub put_from : (there : Option ℕ) → IsMove t old old_name new new_name n there
      → is_directory (node_at (found_lost new_put there) old).content ≡ true
  put_from None is = put_kind is old ∙ is.from
  put_from (Some m) is =
      let apart = is.lost m refl in
      ap (λ (x : Node). is_directory x.content)
      (node_at-other new_put m (with_content (node_at new_put m) name_lost)
      (content_changed new_put m name_lost).worked
      (omega (arith, apart.0, next_of-changed t new (with_name (node_at t new) new_name n) new_put.worked)) old
      (λ here. apart.1 (sym here)))
      ∙ put_kind is old ∙ is.from
