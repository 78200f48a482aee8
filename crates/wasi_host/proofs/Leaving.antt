-- What a step leaves of any tree: which nodes the names hold after it.
use Rattle.std.proofs.Common.{length, ℕ, zero, suc, ◌+◌, ◌≤◌, ◌≡◌, ◌⊎◌, inl, inr, true, false, cond, Bool, List, [], ◌∷◌, ◌++◌, refl, ap, sym, ◌∙◌, subst, arith, Option, Some, None, slice_set, slice_index_or, length-append}
use Rattle.std.specs.Prelude.{Contains}
use Rattle.std.specs.Cmp.Lexicographic.{slice_cmp}
use Rattle.std.specs.Ordering.{nat_cmp, eq_by_cmp}
use Rattle.std.proofs.lemmas.Cmp.{nat_list_cmp_total}
use Rattle.std.proofs.lemmas.List.{length-set}
use Rattle.std.specs.FinMap as maps
use Rattle.wasi_paths.specs.Text.{is_dot_text}
use Rattle.wasi_host.specs.Options.{Options}
use Rattle.wasi_host.specs.Tree.{Tree, Node, Nodes, Names, Content, File, Directory, Link, node_at, next_of, names_of, bytes_of, child, hold_one, stray}
use Rattle.wasi_host.specs.ValidTree.{Reached, root, held}
use Rattle.wasi_host.specs.Agree.{IsMade}
use Rattle.wasi_host.specs.HostCall.{HostCall, OpenAt, StatAt, ReadLinkAt, MakeDirAt, SymlinkAt, LinkAt, RenameAt, UnlinkAt, RemoveDirAt, TimesAt, Access, Stat, SetTimes, Pread, Pwrite, Append, SetSize, Sync, Advise, Flags, ListDir, Dup, Close}
use Rattle.wasi_host.specs.declared.system_time.SystemTime.{SystemTime}
use Rattle.wasi_host.specs.Step.{step, open_step, opened_step, unlink_step, remove_step, rename_step, moved_step, link_step, added_step, times_step, times_set, times_set_if, dropped_step, node_made, file_cut, name_dropped, is_cut, with_name, without_name, with_times, with_nodes, new_file, new_directory, new_link, with_content, content_changed, other_bytes, with_size, with_piece, starts_of, name_added, name_lost, name_taken, name_given, name_moved, one_name_more, one_name_less, made_gone, write_step}
use Rattle.wasi_host.proofs.Changes.{changed}

-- the node that a name of a directory holds
abbrev pub named_in : Node → List ℕ → Option ℕ
named_in node name = maps.get (names_of node.content) name

-- ---- lists of nodes

-- an item after a list, and one in place of another
push_cases : {X : Type 0} (xs : List X) (n : ℕ) (x d : X)
    → (slice_index_or (xs ++ x ∷ []) n d ≡ slice_index_or xs n d) ⊎ (slice_index_or (xs ++ x ∷ []) n d ≡ x)
push_cases [] zero x d = inr refl
push_cases [] (suc n) x d = inl refl
push_cases (a ∷ xs) zero x d = inl refl
push_cases (a ∷ xs) (suc n) x d = push_cases xs n x d

pub set_cases : {X : Type 0} (xs : List X) (i n : ℕ) (x d : X)
    → (slice_index_or (slice_set xs i x) n d ≡ slice_index_or xs n d)
    ⊎ ((n ≡ i) × (slice_index_or (slice_set xs i x) n d ≡ x))
set_cases [] i n x d = inl refl
set_cases (a ∷ xs) zero zero x d = inr (refl, refl)
set_cases (a ∷ xs) zero (suc n) x d = inl refl
set_cases (a ∷ xs) (suc i) zero x d = inl refl
set_cases (a ∷ xs) (suc i) (suc n) x d =
    elim (set_cases xs i n x d) [ inl same ↦ inl same | inr new ↦ inr (ap suc new.0, new.1) ]

-- ---- the names after a step

-- a name held its node before, or holds one that was made
pub record Leaves (t t' : Tree) : Type 0 where
  pub names : (d n : ℕ) (name : List ℕ) → named_in (node_at t' d) name ≡ Some n
      → (named_in (node_at t d) name ≡ Some n) ⊎ IsMade t t' n
  pub grows : next_of t ≤ next_of t'

pub same_leaves : (t : Tree) → Leaves t t
same_leaves t = record { names = λ d n name has. inl has; grows = omega arith }

-- a number is taken
pub made_next : (t : Tree) (d : ℕ) (name : List ℕ) (node : Node) → next_of (node_made t d name node) ≡ next_of t + 1
made_next t d name node =
    let changed : Node = with_name (node_at t d) name (next_of t) in
    omega (arith, length-set t.nodes d changed, length-append (slice_set t.nodes d changed) (node ∷ []))

-- the next node is made
pub next_is_made : (t : Tree) (d : ℕ) (name : List ℕ) (node : Node) → IsMade t (node_made t d name node) (next_of t)
next_is_made t d name node = record { fresh = omega arith; there = omega (arith, made_next t d name node) }

-- a directory with one more name
with_name_cases : (node : Node) (name q : List ℕ) (m n : ℕ) → named_in (with_name node name m) q ≡ Some n
    → (named_in node q ≡ Some n) ⊎ (n ≡ m)
with_name_cases node name q m n has =
    by (eq_by_cmp (slice_cmp nat_cmp) q name)
    (sym (maps.get-insert nat_list_cmp_total (names_of node.content) name m q) ∙ has)
  where
    by : (same : Bool) → cond same (Some m) (named_in node q) ≡ Some n → (named_in node q ≡ Some n) ⊎ (n ≡ m)
    by true is = inr (cc)
    by false is = inl is

pub no_name : (q : List ℕ) (n : ℕ) → named_in stray q ≡ Some n → ⊥
no_name q n is = let none : named_in stray q ≡ None = maps.get-empty (slice_cmp nat_cmp) q in absurd (cc)

-- a node of the tree in which one was made: the new one, or what it was, or the directory with its name
node_cases : (t : Tree) (d e : ℕ) (name : List ℕ) (node : Node)
    → (node_at (node_made t d name node) e ≡ node) ⊎ ((node_at (node_made t d name node) e ≡ node_at t e)
    ⊎ ((e ≡ d) × (node_at (node_made t d name node) e ≡ with_name (node_at t d) name (next_of t))))
unfolding node_at
node_cases t d e name node =
    let changed : Node = with_name (node_at t d) name (next_of t) in
    elim (push_cases (slice_set t.nodes d changed) e node stray) [
      | inl old ↦ inr (elim (set_cases t.nodes d e changed stray) [
        | inl same ↦ inl (old ∙ same)
        | inr (at, set) ↦ inr (at, old ∙ set)
      ])
      | inr new ↦ inl new
    ]

-- the new node has no names of its own
pub node_made_leaves : (t : Tree) (d : ℕ) (name : List ℕ) (node : Node) → names_of node.content ≡ maps.empty
    → Leaves t (node_made t d name node)
node_made_leaves t d name node bare = record {
  names = λ e n q has. elim (node_cases t d e name node) [
    | inl new ↦
        absurd (no_name q n (ap (λ names. maps.get names q) (sym bare) ∙ ap (λ x. named_in x q) (sym new) ∙ has))
    | inr (inl same) ↦ inl (ap (λ x. named_in x q) (sym same) ∙ has)
    | inr (inr (at, set)) ↦
        let named = ap (λ x. named_in x q) (sym set) ∙ has in
        elim (with_name_cases (node_at t d) name q (next_of t) n named) [
          | inl was ↦ inl (ap (λ m. named_in (node_at t m) q) at ∙ was)
          | inr next ↦ inr (subst (IsMade t (node_made t d name node)) (sym next) (next_is_made t d name node))
        ]
  ];
  grows = omega (arith, made_next t d name node);
}

-- a node in place of another, which has the names that it had
put_leaves : (t : Tree) (n : ℕ) (node : Node) (worked : Nodes) → names_of node.content ≡ names_of (node_at t n).content
    → Leaves t (changed t n node worked)
unfolding node_at
put_leaves t n node worked same = record {
  names = λ e m q has. inl (elim (set_cases t.nodes n e node stray) [
    | inl old ↦ ap (λ x. named_in x q) (sym old) ∙ has
    | inr (at, set) ↦
        let kept = ap (λ names. maps.get names q) (sym same) in
        ap (λ k. named_in (node_at t k) q) at ∙ kept ∙ ap (λ x. named_in x q) (sym set) ∙ has
  ]);
  grows = omega (arith, length-set t.nodes n node);
}

-- what holds of each kind of content
pub each_kind : (P : Content → Type 0) → ((bytes : List ℕ) (links : ℕ) → P (File bytes links))
    → ((names : Names) (gone : Bool) → P (Directory names gone)) → ((text : List ℕ) (links : ℕ) → P (Link text links))
    → (content : Content) → P content
each_kind P file directory link (File bytes links) = file bytes links
each_kind P file directory link (Directory names gone) = directory names gone
each_kind P file directory link (Link text links) = link text links

-- a node with other bytes, which has the names that it had
abbrev pub rewritten : (List ℕ → List ℕ) → Node → Node
rewritten change node = with_content node (other_bytes change)

bytes_leave : (t : Tree) (n : ℕ) (change : List ℕ → List ℕ) → Leaves t (content_changed t n (other_bytes change))
bytes_leave t n change =
    put_leaves t n (rewritten change (node_at t n)) (with_nodes t.worked (n ∷ []))
    (each_kind (λ c. names_of (other_bytes change c) ≡ names_of c) (λ _ _. refl) (λ _ _. refl) (λ _ _. refl)
    (node_at t n).content)

write_leaves : (t : Tree) (n offset : ℕ) (piece : List ℕ) → Leaves t (write_step t n offset piece)
unfolding write_step
write_leaves t n offset [] = same_leaves t
write_leaves t n offset (byte ∷ bytes) =
    bytes_leave t n (λ old. with_piece old offset (byte ∷ bytes))

opened_leaves : (t : Tree) (d : ℕ) (name : List ℕ) (o : Options) (c : Option ℕ) → Leaves t (opened_step t d name o c)
opened_leaves t d name o None = node_made_leaves t d name new_file refl
opened_leaves t d name o (Some n) = by (is_cut o (node_at t n).content)
  where
    by : (cut : Bool) → Leaves t (cond cut (file_cut t n) t)
    by true = bytes_leave t n (with_size 0)
    by false = same_leaves t

-- a directory without a name has the others
pub without_name_names : (node : Node) (name q : List ℕ) (n : ℕ) → named_in (without_name node name) q ≡ Some n
    → named_in node q ≡ Some n
without_name_names node name q n has =
    by (eq_by_cmp (slice_cmp nat_cmp) q name)
    (sym (maps.get-remove nat_list_cmp_total (names_of node.content) name q) ∙ has)
  where
    by : (same : Bool) → cond same None (named_in node q) ≡ Some n → named_in node q ≡ Some n
    by true none = absurd (cc)
    by false is = is

pub fewer_names : (content : Content) → names_of (one_name_less content) ≡ names_of content
fewer_names = each_kind (λ c. names_of (one_name_less c) ≡ names_of c) (λ _ _. refl) (λ _ _. refl) (λ _ _. refl)

pub gone_names : (content : Content) → names_of (made_gone content) ≡ names_of content
gone_names = each_kind (λ c. names_of (made_gone c) ≡ names_of c) (λ _ _. refl) (λ _ _. refl) (λ _ _. refl)

-- a name goes, and what it held keeps its own names
drop_leaves : (t : Tree) (d n : ℕ) (name : List ℕ) (change : Content → Content)
    → names_of (change (node_at t n).content) ≡ names_of (node_at t n).content → Leaves t (name_dropped t d name change n)
unfolding node_at
drop_leaves t d n name change same =
    let bare : Node = without_name (node_at t d) name in
    let changed : Node = record (node_at t n) { content = change (node_at t n).content } in record {
      names = λ e m q has. inl (elim (set_cases (slice_set t.nodes d bare) n e changed stray) [
        | inl old ↦ elim (set_cases t.nodes d e bare stray) [
          | inl kept ↦ ap (λ x. named_in x q) (sym (old ∙ kept)) ∙ has
          | inr (at, set) ↦ ap (λ k. named_in (node_at t k) q) at
              ∙ without_name_names (node_at t d) name q m (ap (λ x. named_in x q) (sym (old ∙ set)) ∙ has)
        ]
        | inr (at, set) ↦ ap (λ k. named_in (node_at t k) q) at ∙ ap (λ names. maps.get names q) (sym same)
            ∙ ap (λ x. named_in x q) (sym set) ∙ has
      ]);
      grows = omega (arith, length-set (slice_set t.nodes d bare) n changed, length-set t.nodes d bare);
    }

pub dropped_leaves : (t : Tree) (d : ℕ) (name : List ℕ) (change : Content → Content) (c : Option ℕ)
    → ((content : Content) → names_of (change content) ≡ names_of content) → Leaves t (dropped_step t d name change c)
dropped_leaves t d name change None keeps = same_leaves t
dropped_leaves t d name change (Some n) keeps = drop_leaves t d n name change (keeps (node_at t n).content)

times_leaves : (t : Tree) (n : ℕ) (atime mtime : Option SystemTime) → Leaves t (times_set t n atime mtime)
times_leaves t n atime mtime =
    put_leaves t n (with_times (node_at t n) atime mtime) (with_nodes t.worked (n ∷ [])) refl

pub times_if_leaves : (t : Tree) (atime mtime : Option SystemTime) (c : Option ℕ) → Leaves t (times_set_if t atime mtime c)
times_if_leaves t atime mtime None = same_leaves t
times_if_leaves t atime mtime (Some n) = times_leaves t n atime mtime

pub next_of-dropped_step : (t : Tree) (d : ℕ) (name : List ℕ) (change : Content → Content) (c : Option ℕ)
    → next_of (dropped_step t d name change c) ≡ next_of t
next_of-dropped_step t d name change None = refl
next_of-dropped_step t d name change (Some n) =
    length-set (slice_set t.nodes d (without_name (node_at t d) name)) n
    (record (node_at t n) { content = change (node_at t n).content })
    ∙ length-set t.nodes d (without_name (node_at t d) name)

-- a name held its node before, or holds one that was made, or one of these
pub record LeavesFor (t : Tree) (Near : ℕ → Type 0) (t' : Tree) : Type 0 where
  pub names : (d n : ℕ) (name : List ℕ) → named_in (node_at t' d) name ≡ Some n
      → (named_in (node_at t d) name ≡ Some n) ⊎ (IsMade t t' n ⊎ Near n)
  pub grows : next_of t ≤ next_of t'

-- or one that is reached from these
abbrev pub LeavesNear : Tree → List ℕ → Tree → Type 0
LeavesNear t roots t' = LeavesFor t (Reached t roots) t'

leaves_near : {t t' : Tree} {Near : ℕ → Type 0} → Leaves t t' → LeavesFor t Near t'
leaves_near leaves = record {
  names = λ d n name has. elim (leaves.names d n name has) [ inl was ↦ inl was | inr made ↦ inr (inl made) ];
  grows = leaves.grows;
}

-- nothing changes
pub stays_near : {t : Tree} {Near : ℕ → Type 0} → LeavesFor t Near t
stays_near {t = t} = leaves_near (same_leaves t)

-- the node under a name of a root is reached
pub child_near : (t : Tree) {roots : List ℕ} (d : ℕ) (name : List ℕ) (n : ℕ) → child t d name ≡ Some n
    → Contains roots d → Reached t roots n
unfolding child
child_near t {roots} d name n is has = by (is_dot_text name) is
  where
    by : (dot : Bool) → cond dot (Some d) (named_in (node_at t d) name) ≡ Some n → Reached t roots n
    by true same = let at : d ≡ n = (cc) in subst (Reached t roots) at (root d has)
    by false at = held d n name (root d has) at

pub Contains-here : (d : ℕ) (ds : List ℕ) → Contains (d ∷ ds) d
Contains-here d ds = (0, omega arith, refl)

pub more_names : (content : Content) → names_of (one_name_more content) ≡ names_of content
more_names = each_kind (λ c. names_of (one_name_more c) ≡ names_of c) (λ _ _. refl) (λ _ _. refl) (λ _ _. refl)

-- a name that is added holds its node
add_near : (t : Tree) {Near : ℕ → Type 0} (d n : ℕ) (name : List ℕ) → Near n
    → LeavesFor t Near (name_added t d name n)
unfolding node_at
add_near t {Near} d n name near =
    let parent : Node = with_name (node_at t d) name n in
    let changed : Node = record (node_at t n) { content = one_name_more (node_at t n).content } in
    let same : named_in changed ≡ named_in (node_at t n) = ap maps.get (more_names (node_at t n).content) in record {
      names = λ e m q has. elim (set_cases (slice_set t.nodes d parent) n e changed stray) [
        | inl old ↦ elim (set_cases t.nodes d e parent stray) [
          | inl kept ↦ inl (ap (λ x. named_in x q) (sym (old ∙ kept)) ∙ has)
          | inr (at, set) ↦
              elim (with_name_cases (node_at t d) name q n m (ap (λ x. named_in x q) (sym (old ∙ set)) ∙ has)) [
                | inl was ↦ inl (ap (λ k. named_in (node_at t k) q) at ∙ was)
                | inr here ↦ inr (inr (subst Near (sym here) near))
              ]
        ]
        | inr (at, set) ↦ inl (ap (λ k. named_in (node_at t k) q) at ∙ ap (λ f. f q) (sym same)
            ∙ ap (λ x. named_in x q) (sym set) ∙ has)
      ];
      grows = omega (arith, length-set (slice_set t.nodes d parent) n changed, length-set t.nodes d parent);
    }

pub added_near : (t : Tree) {Near : ℕ → Type 0} (d : ℕ) (name : List ℕ) (c : Option ℕ)
    → ((n : ℕ) → c ≡ Some n → Near n) → LeavesFor t Near (added_step t d name c)
added_near t d name None near = stays_near
added_near t d name (Some n) near = add_near t d n name (near n refl)

pub lost_names : (content : Content) → names_of (name_lost content) ≡ names_of content
lost_names = each_kind (λ c. names_of (name_lost c) ≡ names_of c) (λ _ _. refl) (λ _ _. refl) (λ _ _. refl)

-- a name that is taken leaves the others
taken_names : (t : Tree) (d : ℕ) (name : List ℕ) (e m : ℕ) (q : List ℕ)
    → named_in (node_at (name_taken t d name) e) q ≡ Some m → named_in (node_at t e) q ≡ Some m
unfolding node_at
taken_names t d name e m q has = elim (set_cases t.nodes d e (without_name (node_at t d) name) stray) [
  | inl same ↦ ap (λ x. named_in x q) (sym same) ∙ has
  | inr (at, set) ↦ ap (λ k. named_in (node_at t k) q) at
      ∙ without_name_names (node_at t d) name q m (ap (λ x. named_in x q) (sym set) ∙ has)
]

-- one that is given holds its node
given_names : (t : Tree) (d n : ℕ) (name : List ℕ) (e m : ℕ) (q : List ℕ)
    → named_in (node_at (name_given t d name n) e) q ≡ Some m → (named_in (node_at t e) q ≡ Some m) ⊎ (m ≡ n)
unfolding node_at
given_names t d n name e m q has = elim (set_cases t.nodes d e (with_name (node_at t d) name n) stray) [
  | inl same ↦ inl (ap (λ x. named_in x q) (sym same) ∙ has)
  | inr (at, set) ↦
      elim (with_name_cases (node_at t d) name q n m (ap (λ x. named_in x q) (sym set) ∙ has)) [
        | inl was ↦ inl (ap (λ k. named_in (node_at t k) q) at ∙ was)
        | inr here ↦ inr here
      ]
]

pub next_of-moved : (t : Tree) (old : ℕ) (old_name : List ℕ) (new : ℕ) (new_name : List ℕ) (n : ℕ)
    → next_of (name_moved t old old_name new new_name n) ≡ next_of t
next_of-moved t old old_name new new_name n =
    length-set (name_taken t old old_name).nodes new (with_name (node_at (name_taken t old old_name) new) new_name n)
    ∙ length-set t.nodes old (without_name (node_at t old) old_name)

moved_names : (t : Tree) (old : ℕ) (old_name : List ℕ) (new : ℕ) (new_name : List ℕ) (n e m : ℕ) (q : List ℕ)
    → named_in (node_at (name_moved t old old_name new new_name n) e) q ≡ Some m
    → (named_in (node_at t e) q ≡ Some m) ⊎ (m ≡ n)
unfolding node_at
moved_names t old old_name new new_name n e m q has =
    elim (given_names (name_taken t old old_name) new n new_name e m q has) [
      | inl was ↦ inl (taken_names t old old_name e m q was)
      | inr here ↦ inr here
    ]

-- a name that moves holds its node
move_near : (t t' : Tree) {Near : ℕ → Type 0} (old : ℕ) (old_name : List ℕ) (new : ℕ) (new_name : List ℕ) (n : ℕ)
    → Leaves t t' → Near n → LeavesFor t Near (name_moved t' old old_name new new_name n)
move_near t t' {Near} old old_name new new_name n leaves near =
    let moved : Tree = name_moved t' old old_name new new_name n in
    let next = next_of-moved t' old old_name new new_name n in record {
      names = λ e m q has. elim (moved_names t' old old_name new new_name n e m q has) [
        | inl before ↦ elim (leaves.names e m q before) [
          | inl was ↦ inl was
          | inr made ↦ inr (inl (record { fresh = made.fresh; there = omega (arith, made.there, next) }))
        ]
        | inr here ↦ inr (inr (subst Near (sym here) near))
      ];
      grows = omega (arith, leaves.grows, next);
    }

pub renamed_near : (t : Tree) {Near : ℕ → Type 0} (old : ℕ) (old_name : List ℕ) (new : ℕ) (new_name : List ℕ)
    → ((n : ℕ) → child t old old_name ≡ Some n → Near n)
    → LeavesFor t Near (rename_step t old old_name new new_name)
unfolding rename_step
renamed_near t {Near} old old_name new new_name near =
    either (hold_one (child t old old_name) (child t new new_name)) (moves (child t old old_name) refl)
  where
    either : (b : Bool) → LeavesFor t Near (moved_step t old old_name new new_name (child t old old_name))
        → LeavesFor t Near (cond b t (moved_step t old old_name new new_name (child t old old_name)))
    either true leaves = stays_near
    either false leaves = leaves

    moves : (c : Option ℕ) → child t old old_name ≡ c → LeavesFor t Near (moved_step t old old_name new new_name c)
    moves None is = stays_near
    moves (Some n) is =
        move_near t (dropped_step t new new_name name_lost (child t new new_name)) old old_name new new_name n
        (dropped_leaves t new new_name name_lost (child t new new_name) lost_names)
        (near n is)

-- a call starts at some node, or leaves every tree
pub starts_or_stays : (call : HostCall) → ((n : ℕ) × Contains (starts_of call) n) ⊎ ((t : Tree) → step t call ≡ t)
starts_or_stays (OpenAt d name o) = inl (d, Contains-here d [])
starts_or_stays (StatAt d name) = inl (d, Contains-here d [])
starts_or_stays (ReadLinkAt d name) = inl (d, Contains-here d [])
starts_or_stays (MakeDirAt d name) = inl (d, Contains-here d [])
starts_or_stays (SymlinkAt text d name) = inl (d, Contains-here d [])
starts_or_stays (LinkAt old old_name new new_name) = inl (old, Contains-here old (new ∷ []))
starts_or_stays (RenameAt old old_name new new_name requires_dir) = inl (old, Contains-here old (new ∷ []))
starts_or_stays (UnlinkAt d name) = inl (d, Contains-here d [])
starts_or_stays (RemoveDirAt d name) = inl (d, Contains-here d [])
starts_or_stays (TimesAt d name atime mtime) = inl (d, Contains-here d [])
starts_or_stays (Access d) = inl (d, Contains-here d [])
starts_or_stays (Stat n) = inl (n, Contains-here n [])
starts_or_stays (SetTimes n atime mtime) = inl (n, Contains-here n [])
starts_or_stays (Pread file offset n) = inl (file.node, Contains-here file.node [])
starts_or_stays (Pwrite file offset piece) = inl (file.node, Contains-here file.node [])
starts_or_stays (Append file piece) = inl (file.node, Contains-here file.node [])
starts_or_stays (SetSize file size) = inl (file.node, Contains-here file.node [])
starts_or_stays (Sync n) = inl (n, Contains-here n [])
starts_or_stays (Advise n offset length advice) = inl (n, Contains-here n [])
starts_or_stays (Flags n) = inl (n, Contains-here n [])
starts_or_stays (ListDir stands) = inl (stands.node, Contains-here stands.node [])
starts_or_stays (Dup stands) = inl (stands.node, Contains-here stands.node [])
starts_or_stays Close = inr (λ t. refl)

-- the step of any call leaves the names so, and gives up no number
pub step_leaves : (t : Tree) (call : HostCall) → LeavesNear t (starts_of call) (step t call)
unfolding open_step unlink_step remove_step link_step rename_step times_step
step_leaves t (OpenAt d name o) = leaves_near (opened_leaves t d name o (child t d name))
step_leaves t (StatAt d name) = stays_near
step_leaves t (ReadLinkAt d name) = stays_near
step_leaves t (MakeDirAt d name) = leaves_near (node_made_leaves t d name new_directory refl)
step_leaves t (SymlinkAt text d name) = leaves_near (node_made_leaves t d name (new_link text) refl)
step_leaves t (LinkAt old old_name new new_name) =
    added_near t new new_name (child t old old_name) (λ n is. child_near t old old_name n is (Contains-here old (new ∷ [])))
step_leaves t (RenameAt old old_name new new_name requires_dir) =
    renamed_near t old old_name new new_name (λ n is. child_near t old old_name n is (Contains-here old (new ∷ [])))
step_leaves t (UnlinkAt d name) = leaves_near (dropped_leaves t d name one_name_less (child t d name) fewer_names)
step_leaves t (RemoveDirAt d name) = leaves_near (dropped_leaves t d name made_gone (child t d name) gone_names)
step_leaves t (TimesAt d name atime mtime) = leaves_near (times_if_leaves t atime mtime (child t d name))
step_leaves t (Access d) = stays_near
step_leaves t (Stat n) = stays_near
step_leaves t (SetTimes n atime mtime) = leaves_near (times_leaves t n atime mtime)
step_leaves t (Pread file offset n) = stays_near
step_leaves t (Pwrite file offset piece) = leaves_near (write_leaves t file.node offset piece)
step_leaves t (Append file piece) =
    leaves_near (write_leaves t file.node (length (bytes_of (node_at t file.node).content)) piece)
step_leaves t (SetSize file size) = leaves_near (bytes_leave t file.node (with_size size))
step_leaves t (Sync n) = stays_near
step_leaves t (Advise n offset length advice) = stays_near
step_leaves t (Flags n) = stays_near
step_leaves t (ListDir stands) = stays_near
step_leaves t (Dup stands) = stays_near
step_leaves t Close = stays_near
