-- Where directories stand, before and after a step.
use Rattle.std.proofs.Common.{◌≡◌, ◌≢◌, ◌⊎◌, inl, inr, ℕ, ◌+◌, ◌<◌, ◌≤◌, Bool, true, false, cond, List, [], ◌∷◌, ◌++◌, length, slice_set, Option, Some, None, refl, sym, ap, ◌∙◌, subst, arith}
use Rattle.std.proofs.Math.Seq.{get_or-append_seam}
use Rattle.std.proofs.lemmas.Bool.{true≢false, cases_eq, cases_lt}
use Rattle.std.proofs.lemmas.List.{length-set, length-append, get_or-set_same, get_or-set_other, get_or_append_left, get_or_past}
use Rattle.std.specs.Cmp.Lexicographic.{slice_cmp, nat_list_cmp_total}
use Rattle.std.specs.FinMap as maps
use Rattle.std.specs.Ordering.{nat_cmp, eq_by_cmp}
use Rattle.wasi_host.specs.Tree.{Tree, Node, Nodes, Names, node_at, next_of, names_of, is_directory}
use Rattle.wasi_host.specs.Step.{without_name, with_name, node_made}
use Rattle.wasi_host.proofs.Changes.{changed, directory_within, next_of-changed, node_at-changed, node_at-other, node_at-same, node_at-past, node_at-parent, node_at-apart, node_at-made, node_at-kept, next_of-made}
use Rattle.wasi_host.proofs.EntryLemmas.{unnamed, get-inserted, get-kept, get-removed, get-left}
use Rattle.wasi_host.proofs.Leaving.{no_name, node_made_leaves, without_name_names}
use Rattle.wasi_tree.proofs.TextEntries.{same_name}
use Rattle.wasi_tree.specs.ParentOf.{parent_of, named_at, AreParents}

-- ---- one node stands elsewhere

-- a node has this parent, and each other the one that it had
pub record Places (old new : List (Option ℕ)) (n : ℕ) (parent : Option ℕ) : Type 0 where
  pub here : parent_of new n ≡ parent
  pub others : (m : ℕ) → m ≢ n → parent_of new m ≡ parent_of old m

pub places_same : (parents : List (Option ℕ)) (n : ℕ) → Places parents parents n (parent_of parents n)
places_same parents n = record { here = refl; others = λ m other. refl }

pub places_set : (parents : List (Option ℕ)) (n : ℕ) (parent : Option ℕ) → n < length parents
    → Places parents (slice_set parents n parent) n parent
places_set parents n parent within = record {
  here = get_or-set_same parents n parent None within;
  others = λ m other. get_or-set_other parents n m parent None other;
}

pub places_push : (parents : List (Option ℕ)) (parent : Option ℕ)
    → Places parents (parents ++ parent ∷ []) (length parents) parent
places_push parents parent = record {
  here = get_or-append_seam parents parent [] None;
  others = λ m other. elim (cases_lt m (length parents)) [
    | inl before ↦ get_or_append_left parents (parent ∷ []) None m before
    | inr past ↦
        get_or_past (parents ++ parent ∷ []) m None (omega (arith, length-append parents (parent ∷ []), past, other))
        ∙ sym (get_or_past parents m None past)
  ];
}

-- all but one node stay what they are, under the names that they have
pub record Moves (t u : Tree) (n : ℕ) : Type 0 where
  pub grows : next_of t ≤ next_of u
  pub kinds : (m : ℕ) → m ≢ n → is_directory (node_at u m).content ≡ is_directory (node_at t m).content
  pub still : (d m : ℕ) (name : List ℕ) → m ≢ n → named_at t d name ≡ Some m → named_at u d name ≡ Some m
  pub before : (d m : ℕ) (name : List ℕ) → m ≢ n → named_at u d name ≡ Some m → named_at t d name ≡ Some m

-- a node has its parent by right
pub record Stands (t : Tree) (n : ℕ) (parent : Option ℕ) : Type 0 where
  pub within : n < next_of t
  pub up : (d : ℕ) (name : List ℕ) → is_directory (node_at t n).content ≡ true → named_at t d name ≡ Some n
      → parent ≡ Some d
  pub down : (d : ℕ) → is_directory (node_at t n).content ≡ true → parent ≡ Some d
      → (name : List ℕ) × (named_at t d name ≡ Some n)
  pub once : (d : ℕ) (name other : List ℕ) → is_directory (node_at t n).content ≡ true → named_at t d name ≡ Some n
      → named_at t d other ≡ Some n → name ≡ other

-- what is no directory may have any
pub stands_leaf : {t : Tree} {n : ℕ} (parent : Option ℕ) → n < next_of t → is_directory (node_at t n).content ≡ false
    → Stands t n parent
stands_leaf parent within leaf = record {
  within = within;
  up = λ d name directory is. absurd (true≢false (sym directory ∙ leaf));
  down = λ d directory is. absurd (true≢false (sym directory ∙ leaf));
  once = λ d name other directory is and. absurd (true≢false (sym directory ∙ leaf));
}

module _ {t u : Tree} {n : ℕ} {parent : Option ℕ} {old new : List (Option ℕ)} (are : AreParents t old)
    (moves : Moves t u n) (stands : Stands u n parent) (places : Places old new n parent)
    (len : length new ≡ next_of u) where
  directory_before : (m : ℕ) → m ≢ n → is_directory (node_at u m).content ≡ true
      → is_directory (node_at t m).content ≡ true
  directory_before m other directory = sym (moves.kinds m other) ∙ directory

  here_directory : {m : ℕ} → m ≡ n → is_directory (node_at u m).content ≡ true
      → is_directory (node_at u n).content ≡ true
  here_directory same directory = subst (λ k. is_directory (node_at u k).content ≡ true) same directory

  pub parents_after : AreParents u new
  parents_after = record {
    len = len;
    within = λ d m name is. elim (cases_eq m n) [
      | inl here ↦ subst (λ k. k < next_of u) (sym here) stands.within
      | inr other ↦ let was = are.within d m name (moves.before d m name other is) in omega (arith, was, moves.grows)
    ];
    up = λ d m name directory is. elim (cases_eq m n) [
      | inl here ↦
          ap (parent_of new) here ∙ places.here
          ∙ stands.up d name (here_directory here directory) (is ∙ ap Some here)
      | inr other ↦
          places.others m other
          ∙ are.up d m name (directory_before m other directory) (moves.before d m name other is)
    ];
    down = λ d m directory is. elim (cases_eq m n) [
      | inl here ↦
          let found = stands.down d (here_directory here directory)
          (sym places.here ∙ sym (ap (parent_of new) here) ∙ is) in
          (found.0, found.1 ∙ ap Some (sym here))
      | inr other ↦
          let found = are.down d m (directory_before m other directory) (sym (places.others m other) ∙ is) in
          (found.0, moves.still d m found.0 other found.1)
    ];
    once = λ d m name other_name directory is and. elim (cases_eq m n) [
      | inl here ↦
          stands.once d name other_name (here_directory here directory) (is ∙ ap Some here) (and ∙ ap Some here)
      | inr other ↦
          are.once d m name other_name (directory_before m other directory) (moves.before d m name other is)
          (moves.before d m other_name other and)
    ];
  }

-- ---- nothing stands elsewhere

-- each node has the names that it had, and is what it was
pub record SameNames (t u : Tree) : Type 0 where
  pub next : next_of u ≡ next_of t
  pub kinds : (m : ℕ) → is_directory (node_at u m).content ≡ is_directory (node_at t m).content
  pub names : (d : ℕ) (name : List ℕ) → named_at u d name ≡ named_at t d name

pub names_same : {t u : Tree} → u ≡ t → SameNames t u
names_same {t} same = subst (SameNames t) (sym same) (record { next = refl; kinds = λ m. refl; names = λ d name. refl })

pub names_changed : (t : Tree) (n : ℕ) (node : Node) (worked : Nodes) → n < next_of t
    → names_of node.content ≡ names_of (node_at t n).content
    → is_directory node.content ≡ is_directory (node_at t n).content → SameNames t (changed t n node worked)
names_changed t n node worked within named kind = record {
  next = next_of-changed t n node worked;
  kinds = λ m. node_at-same t n node worked within (λ x. is_directory x.content) kind m;
  names = λ d name.
      ap (λ (m : Names). maps.get m name)
      (node_at-same t n node worked within (λ x. names_of x.content) named d);
}

pub parents_same : {t u : Tree} {parents : List (Option ℕ)} → SameNames t u → AreParents t parents
    → AreParents u parents
parents_same same are = record {
  len = are.len ∙ sym same.next;
  within = λ d n name is. let was = are.within d n name (sym (same.names d name) ∙ is) in omega (arith, was, same.next);
  up = λ d n name directory is. are.up d n name (sym (same.kinds n) ∙ directory) (sym (same.names d name) ∙ is);
  down = λ d n directory is.
      let found = are.down d n (sym (same.kinds n) ∙ directory) is in (found.0, same.names d found.0 ∙ found.1);
  once = λ d n name other directory is and.
      are.once d n name other (sym (same.kinds n) ∙ directory) (sym (same.names d name) ∙ is)
      (sym (same.names d other) ∙ and);
}

-- ---- names

-- a name in a directory with one name more
pub with_name_cases : (node : Node) (name q : List ℕ) (m n : ℕ)
    → maps.get (names_of (with_name node name m).content) q ≡ Some n
    → (maps.get (names_of node.content) q ≡ Some n) ⊎ ((q ≡ name) × (n ≡ m))
with_name_cases node name q m n has =
    by (eq_by_cmp (slice_cmp nat_cmp) q name) refl
    (sym (maps.get-insert nat_list_cmp_total (names_of node.content) name m q) ∙ has)
  where
    by : (b : Bool) → eq_by_cmp (slice_cmp nat_cmp) q name ≡ b
        → cond b (Some m) (maps.get (names_of node.content) q) ≡ Some n
        → (maps.get (names_of node.content) q ≡ Some n) ⊎ ((q ≡ name) × (n ≡ m))
    by true tie is = let same : n ≡ m = (cc) in inr (same_name q name tie, same)
    by false tie is = inl is

-- one that is gone from a directory with one name less is that
pub without_name_gone : (node : Node) (name q : List ℕ) (n : ℕ) → maps.get (names_of node.content) q ≡ Some n
    → (maps.get (names_of (without_name node name).content) q ≡ Some n → ⊥) → q ≡ name
without_name_gone node name q n is gone =
    by (eq_by_cmp (slice_cmp nat_cmp) q name) refl
    (λ left. gone (maps.get-remove nat_list_cmp_total (names_of node.content) name q ∙ left))
  where
    by : (b : Bool) → eq_by_cmp (slice_cmp nat_cmp) q name ≡ b
        → (cond b None (maps.get (names_of node.content) q) ≡ Some n → ⊥) → q ≡ name
    by true tie never = same_name q name tie
    by false tie never = absurd (never is)

-- ---- a name is taken from a directory

module _ (t : Tree) (d n : ℕ) (name : List ℕ) (worked : Nodes) (directory : is_directory (node_at t d).content ≡ true)
    (named : named_at t d name ≡ Some n) where
  abbrev taken : Tree
  taken = changed t d (without_name (node_at t d) name) worked

  taken_within : d < next_of t
  taken_within = directory_within t d directory

  taken_here : node_at taken d ≡ without_name (node_at t d) name
  taken_here = node_at-changed t d (without_name (node_at t d) name) worked taken_within

  taken_other : (k : ℕ) → k ≢ d → node_at taken k ≡ node_at t k
  taken_other k other = node_at-other t d (without_name (node_at t d) name) worked taken_within k other

  pub taken_kinds : (k : ℕ) → is_directory (node_at taken k).content ≡ is_directory (node_at t k).content
  taken_kinds k =
      node_at-same t d (without_name (node_at t d) name) worked taken_within (λ x. is_directory x.content)
      (sym directory) k

  pub taken_before : (e m : ℕ) (q : List ℕ) → named_at taken e q ≡ Some m → named_at t e q ≡ Some m
  taken_before e m q is = elim (cases_eq e d) [
    | inl here ↦
        subst (λ k. named_at t k q ≡ Some m) (sym here)
        (without_name_names (node_at t d) name q m
        (ap (λ (x : Node). maps.get (names_of x.content) q) (sym (ap (node_at taken) here ∙ taken_here)) ∙ is))
    | inr other ↦ ap (λ (x : Node). maps.get (names_of x.content) q) (sym (taken_other e other)) ∙ is
  ]

  pub taken_still : (e m : ℕ) (q : List ℕ) → m ≢ n → named_at t e q ≡ Some m → named_at taken e q ≡ Some m
  taken_still e m q apart is = elim (cases_eq e d) [
    | inl here ↦
        ap (λ (x : Node). maps.get (names_of x.content) q) (ap (node_at taken) here ∙ taken_here)
        ∙ get-left (names_of (node_at t d).content) name n named q m apart
        (ap (λ k. named_at t k q) (sym here) ∙ is)
    | inr other ↦ ap (λ (x : Node). maps.get (names_of x.content) q) (taken_other e other) ∙ is
  ]

  pub taken_none : named_at taken d name ≡ None
  taken_none =
      ap (λ (x : Node). maps.get (names_of x.content) name) taken_here
      ∙ get-removed (names_of (node_at t d).content) name n named

  pub taken_moves : Moves t taken n
  taken_moves = record {
    grows = omega (arith, next_of-changed t d (without_name (node_at t d) name) worked);
    kinds = λ m other. taken_kinds m;
    still = λ e m q other is. taken_still e m q other is;
    before = λ e m q other is. taken_before e m q is;
  }

  module _ {parents : List (Option ℕ)} (are : AreParents t parents) where
    -- it has no other
    pub taken_nowhere : is_directory (node_at t n).content ≡ true → (e : ℕ) (q : List ℕ)
        → named_at taken e q ≡ Some n → ⊥
    taken_nowhere kind e q is =
        let was : named_at t e q ≡ Some n = taken_before e n q is in
        let both : Some e ≡ Some d = sym (are.up e n q kind was) ∙ are.up d n name kind named in
        let here : e ≡ d = (cc) in
        let one : q ≡ name =
        are.once d n q name kind (ap (λ k. named_at t k q) (sym here) ∙ was) named in
        let gone : named_at taken e q ≡ None = (λ i. named_at taken (here i) (one i)) ∙ taken_none in
        absurd (cc)

    pub taken_stands : Stands taken n None
    taken_stands =
        let within : n < next_of t = are.within d n name named in
        let kind : is_directory (node_at taken n).content ≡ true → is_directory (node_at t n).content ≡ true =
        λ directory. sym (taken_kinds n) ∙ directory in record {
          within = omega (arith, within, next_of-changed t d (without_name (node_at t d) name) worked);
          up = λ e q directory is. absurd (taken_nowhere (kind directory) e q is);
          down = λ e directory is. absurd (cc);
          once = λ e q other directory is and. absurd (taken_nowhere (kind directory) e q is);
        }

    pub taken_len : (m : ℕ) (parent : Option ℕ) → length (slice_set parents m parent) ≡ next_of taken
    taken_len m parent =
        length-set parents m parent ∙ are.len
        ∙ sym (next_of-changed t d (without_name (node_at t d) name) worked)

    pub parents_taken : AreParents taken (slice_set parents n None)
    parents_taken =
        let within = are.within d n name named in
        parents_after are taken_moves taken_stands (places_set parents n None (omega (arith, within, are.len)))
        (taken_len n None)

-- ---- a name is given to a directory

-- no name holds a directory
abbrev pub IsFree : Tree → ℕ → Type 0
IsFree t n = is_directory (node_at t n).content ≡ true → (e : ℕ) (q : List ℕ) → named_at t e q ≡ Some n → ⊥

module _ (t : Tree) (d n : ℕ) (name : List ℕ) (worked : Nodes) (directory : is_directory (node_at t d).content ≡ true)
    (missing : named_at t d name ≡ None) where
  abbrev put : Tree
  put = changed t d (with_name (node_at t d) name n) worked

  put_within : d < next_of t
  put_within = directory_within t d directory

  put_here : node_at put d ≡ with_name (node_at t d) name n
  put_here = node_at-changed t d (with_name (node_at t d) name n) worked put_within

  put_other : (k : ℕ) → k ≢ d → node_at put k ≡ node_at t k
  put_other k other = node_at-other t d (with_name (node_at t d) name n) worked put_within k other

  pub put_kinds : (k : ℕ) → is_directory (node_at put k).content ≡ is_directory (node_at t k).content
  put_kinds k =
      node_at-same t d (with_name (node_at t d) name n) worked put_within (λ x. is_directory x.content)
      (sym directory) k

  put_still : (e m : ℕ) (q : List ℕ) → named_at t e q ≡ Some m → named_at put e q ≡ Some m
  put_still e m q is = elim (cases_eq e d) [
    | inl here ↦
        ap (λ (x : Node). maps.get (names_of x.content) q) (ap (node_at put) here ∙ put_here)
        ∙ get-kept (names_of (node_at t d).content) name n missing q m (ap (λ k. named_at t k q) (sym here) ∙ is)
    | inr other ↦ ap (λ (x : Node). maps.get (names_of x.content) q) (put_other e other) ∙ is
  ]

  -- a name held its node before, or is the new one
  put_cases : (e m : ℕ) (q : List ℕ) → named_at put e q ≡ Some m
      → (named_at t e q ≡ Some m) ⊎ ((e ≡ d) × (q ≡ name) × (m ≡ n))
  put_cases e m q is = elim (cases_eq e d) [
    | inl here ↦
        elim (with_name_cases (node_at t d) name q n m
        (ap (λ (x : Node). maps.get (names_of x.content) q) (sym (ap (node_at put) here ∙ put_here)) ∙ is)) [
          | inl was ↦ inl (ap (λ k. named_at t k q) here ∙ was)
          | inr new ↦ inr (here, new.0, new.1)
        ]
    | inr other ↦ inl (ap (λ (x : Node). maps.get (names_of x.content) q) (sym (put_other e other)) ∙ is)
  ]

  put_moves : Moves t put n
  put_moves = record {
    grows = omega (arith, next_of-changed t d (with_name (node_at t d) name n) worked);
    kinds = λ m other. put_kinds m;
    still = λ e m q other is. put_still e m q is;
    before = λ e m q other is. elim (put_cases e m q is) [ inl was ↦ was | inr new ↦ absurd (other new.2) ];
  }

  module _ (is_free : n < next_of t × IsFree t n) where
    put_place : is_directory (node_at put n).content ≡ true → (e : ℕ) (q : List ℕ) → named_at put e q ≡ Some n
        → (e ≡ d) × (q ≡ name)
    put_place kind e q is = elim (put_cases e n q is) [
      | inl was ↦ absurd (is_free.1 (sym (put_kinds n) ∙ kind) e q was)
      | inr new ↦ (new.0, new.1)
    ]

    put_stands : Stands put n (Some d)
    put_stands = record {
      within = omega (arith, is_free.0, next_of-changed t d (with_name (node_at t d) name n) worked);
      up = λ e q kind is. ap Some (sym (put_place kind e q is).0);
      down = λ e kind is.
          let here : d ≡ e = (cc) in (
            name,
            ap (λ (x : Node). maps.get (names_of x.content) name) (ap (node_at put) (sym here) ∙ put_here)
                ∙ get-inserted (names_of (node_at t d).content) name n missing,
          );
      once = λ e q other kind is and. (put_place kind e q is).1 ∙ sym (put_place kind e other and).1;
    }

    pub parents_put : {old new : List (Option ℕ)} → AreParents t old → Places old new n (Some d)
        → length new ≡ length old → AreParents put new
    parents_put are places same =
        parents_after are put_moves put_stands places
        (same ∙ are.len ∙ sym (next_of-changed t d (with_name (node_at t d) name n) worked))

  -- what is no directory stands nowhere else
  pub parents_put_leaf : {parents : List (Option ℕ)} → AreParents t parents → n < next_of t
      → is_directory (node_at t n).content ≡ false → AreParents put parents
  parents_put_leaf {parents} are within leaf =
      let next = next_of-changed t d (with_name (node_at t d) name n) worked in
      parents_after are put_moves
      (stands_leaf (parent_of parents n) (omega (arith, within, next)) (put_kinds n ∙ leaf))
      (places_same parents n) (are.len ∙ sym next)

-- ---- a node more, under a name of a directory

module _ (t : Tree) (d : ℕ) (name : List ℕ) (node : Node) (directory : is_directory (node_at t d).content ≡ true)
    (missing : named_at t d name ≡ None) (bare : names_of node.content ≡ maps.empty) where
  abbrev grown : Tree
  grown = node_made t d name node

  grown_within : d < next_of t
  grown_within = directory_within t d directory

  grown_next : next_of grown ≡ next_of t + 1
  grown_next = next_of-made t d name node grown_within

  grown_here : node_at grown d ≡ with_name (node_at t d) name (next_of t)
  grown_here = node_at-parent t d name node grown_within

  grown_still : (e m : ℕ) (q : List ℕ) → named_at t e q ≡ Some m → named_at grown e q ≡ Some m
  grown_still e m q is = elim (cases_lt e (next_of t)) [
    | inl before ↦ elim (cases_eq e d) [
      | inl here ↦
          ap (λ (x : Node). maps.get (names_of x.content) q) (ap (node_at grown) here ∙ grown_here)
          ∙ get-kept (names_of (node_at t d).content) name (next_of t) missing q m
          (ap (λ k. named_at t k q) (sym here) ∙ is)
      | inr other ↦
          ap (λ (x : Node). maps.get (names_of x.content) q)
          (node_at-apart t d name node grown_within e before other)
          ∙ is
    ]
    | inr past ↦ absurd (no_name q m
        (ap (λ (x : Node). maps.get (names_of x.content) q) (sym (node_at-past t e past)) ∙ is))
  ]

  grown_kinds : (m : ℕ) → m ≢ next_of t → is_directory (node_at grown m).content ≡ is_directory (node_at t m).content
  grown_kinds m other = elim (cases_lt m (next_of t)) [
    | inl before ↦ node_at-kept t d name node grown_within (λ x. is_directory x.content) (sym directory) m before
    | inr past ↦
        ap (λ (x : Node). is_directory x.content)
        (node_at-past grown m (omega (arith, grown_next, past, other)) ∙ sym (node_at-past t m past))
  ]

  grown_moves : Moves t grown (next_of t)
  grown_moves = record {
    grows = omega (arith, grown_next);
    kinds = grown_kinds;
    still = λ e m q other is. grown_still e m q is;
    before = λ e m q other is. elim ((node_made_leaves t d name node bare).names e m q is) [
      | inl was ↦ was
      | inr made ↦ absurd (omega (arith, other, made.fresh, made.there, grown_next))
    ];
  }

  -- a name held its node before, or is the new one
  grown_place : {parents : List (Option ℕ)} → AreParents t parents → (e : ℕ) (q : List ℕ)
      → named_at grown e q ≡ Some (next_of t) → (e ≡ d) × (q ≡ name)
  grown_place are e q is = elim (cases_lt e (next_of t)) [
    | inl before ↦ elim (cases_eq e d) [
      | inl here ↦ elim (with_name_cases (node_at t d) name q (next_of t) (next_of t)
          (ap (λ (x : Node). maps.get (names_of x.content) q) (sym (ap (node_at grown) here ∙ grown_here)) ∙ is)) [
            | inl was ↦ let within = are.within d (next_of t) q was in absurd (omega (arith, within))
            | inr new ↦ (here, new.0)
          ]
      | inr other ↦
          let within = are.within e (next_of t) q
          (ap (λ (x : Node). maps.get (names_of x.content) q)
          (sym (node_at-apart t d name node grown_within e before other))
          ∙ is) in
          absurd (omega (arith, within))
    ]
    | inr after ↦ elim (cases_lt e (next_of grown)) [
      | inl there ↦
          let last : e ≡ next_of t = omega (arith, grown_next, after, there) in
          absurd (unnamed (names_of node.content) q (next_of t) bare
          (ap (λ (x : Node). maps.get (names_of x.content) q)
          (sym (ap (node_at grown) last ∙ node_at-made t d name node grown_within))
          ∙ is))
      | inr past ↦ absurd (no_name q (next_of t)
          (ap (λ (x : Node). maps.get (names_of x.content) q) (sym (node_at-past grown e past)) ∙ is))
    ]
  ]

  pub parents_grown : {parents : List (Option ℕ)} → AreParents t parents
      → AreParents grown (parents ++ Some d ∷ [])
  parents_grown {parents} are =
      let stands : Stands grown (next_of t) (Some d) = record {
        within = omega (arith, grown_next);
        up = λ e q kind is. ap Some (sym (grown_place are e q is).0);
        down = λ e kind is.
            let here : d ≡ e = (cc) in (
              name,
              ap (λ (x : Node). maps.get (names_of x.content) name) (ap (node_at grown) (sym here) ∙ grown_here)
                  ∙ get-inserted (names_of (node_at t d).content) name (next_of t) missing,
            );
        once = λ e q other kind is and. (grown_place are e q is).1 ∙ sym (grown_place are e other and).1;
      } in
      parents_after are grown_moves stands
      (subst (λ k. Places parents (parents ++ Some d ∷ []) k (Some d)) are.len (places_push parents (Some d)))
      (omega (arith, length-append parents (Some d ∷ []), are.len, grown_next))
