-- A call of a host is answered alike over two trees with equal nodes where its handles stand, and its step leaves them
-- with equal nodes there.
use Rattle.std.proofs.Common.{ℕ, zero, suc, ◌+◌, ◌<◌, ◌≤◌, ◌≡◌, ◌⊎◌, inl, inr, true, false, cond, Bool, not, ◌&&◌, ◌||◌, nat_eq, List, [], ◌∷◌, ◌++◌, length, map, get_or, refl, ap, sym, ◌∙◌, subst, arith, Option, Some, None, Ok, nat_le, slice_set, slice_index_or}
use Rattle.std.specs.Prelude.{Contains}
use Rattle.std.specs.FinMap as maps
use Rattle.std.specs.List.{list_any}
use Rattle.std.proofs.lemmas.List.{length-set, get_or_push}
use Rattle.std.proofs.lemmas.List.Elements.{Contains-push, Contains-push_cases}
use Rattle.wasi_paths.specs.Text.{is_dot_text}
use Rattle.wasi_host.specs.Options.{Options}
use Rattle.wasi_host.specs.Tree.{Tree, Node, Nodes, Names, Content, node_at, next_of, names_of, bytes_of, child, hold_one, is_link, is_directory, links_of, stray}
use Rattle.wasi_host.specs.ValidTree.{Reached, root, held}
use Rattle.wasi_host.specs.Below.{is_within, is_below}
use Rattle.wasi_host.specs.Agree.{IsClosed, AgreeOn, IsMade, OrMade}
use Rattle.wasi_host.specs.HostCall.{HostCall, OpenAt, StatAt, ReadLinkAt, MakeDirAt, SymlinkAt, LinkAt, RenameAt, UnlinkAt, RemoveDirAt, TimesAt, Access, Stat, SetTimes, Pread, Pwrite, Append, SetSize, Sync, Advise, Flags, ListDir, Dup, Close}
use Rattle.wasi_host.specs.Refusal.{refusal, passes, holds, finds_above, is_bare}
use Rattle.wasi_host.specs.Step.{step, open_step, opened_step, unlink_step, remove_step, rename_step, moved_step, link_step, added_step, times_step, times_set, times_set_if, dropped_step, node_made, file_cut, name_dropped, is_cut, with_name, without_name, with_times, with_nodes, new_file, new_directory, new_link, name_lost, name_taken, name_moved, one_name_more, one_name_less, made_gone, content_changed, other_bytes, with_size, with_piece, append_step, write_step, starts_of}
use Rattle.wasi_host.specs.Answer.{kind_of, reached, or_next, unless, metadata_of, text_held, link_text, listed, listing, host_answer}
use Rattle.wasi_host.specs.declared.errors.ErrorCode.{ErrorCode}
use Rattle.wasi_host.specs.declared.system_time.SystemTime.{SystemTime}
use Rattle.wasi_host.proofs.EntryLemmas.{get_entry}
use Rattle.wasi_host.proofs.Changes.{changed, node_at-past}
use Rattle.wasi_host.proofs.Leaving.{LeavesNear, next_of-moved, next_of-dropped_step, Contains-here, named_in, no_name, made_next, next_is_made, rewritten}

map_same : {X Y : Type 0} (f g : X → Y) (xs : List X)
    → ((i : ℕ) (d : X) → i < length xs → f (get_or xs i d) ≡ g (get_or xs i d)) → map f xs ≡ map g xs
map_same f g [] same = refl
map_same f g (x ∷ xs) same =
    let first = same 0 x (omega arith) in
    let rest = map_same f g xs (λ i d short. same (suc i) d (omega arith)) in
    λ i. first i ∷ rest i

any_same : {X : Type 0} (p q : X → Bool) (xs : List X)
    → ((i : ℕ) (d : X) → i < length xs → p (get_or xs i d) ≡ q (get_or xs i d)) → list_any p xs ≡ list_any q xs
any_same p q [] same = refl
any_same p q (x ∷ xs) same =
    ap (λ b. b || list_any p xs) (same 0 x (omega arith))
    ∙ ap (λ b. q x || b) (any_same p q xs (λ i d short. same (suc i) d (omega arith)))

-- ---- lists of nodes that are equal at a number

set_same : {X : Type 0} (xs ys : List X) (i n : ℕ) (x d : X) → length xs ≡ length ys
    → slice_index_or xs n d ≡ slice_index_or ys n d
    → slice_index_or (slice_set xs i x) n d ≡ slice_index_or (slice_set ys i x) n d
set_same [] [] i n x d len same = refl
set_same [] (b ∷ ys) i n x d len same = absurd (omega arith)
set_same (a ∷ xs) [] i n x d len same = absurd (omega arith)
set_same (a ∷ xs) (b ∷ ys) zero zero x d len same = refl
set_same (a ∷ xs) (b ∷ ys) zero (suc n) x d len same = same
set_same (a ∷ xs) (b ∷ ys) (suc i) zero x d len same = same
set_same (a ∷ xs) (b ∷ ys) (suc i) (suc n) x d len same = set_same xs ys i n x d (omega arith) same

push_same : {X : Type 0} (xs ys : List X) (n : ℕ) (x d : X) → length xs ≡ length ys
    → slice_index_or xs n d ≡ slice_index_or ys n d
    → slice_index_or (xs ++ x ∷ []) n d ≡ slice_index_or (ys ++ x ∷ []) n d
push_same [] [] n x d len same = refl
push_same [] (b ∷ ys) n x d len same = absurd (omega arith)
push_same (a ∷ xs) [] n x d len same = absurd (omega arith)
push_same (a ∷ xs) (b ∷ ys) zero x d len same = same
push_same (a ∷ xs) (b ∷ ys) (suc n) x d len same = push_same xs ys n x d (omega arith) same

stray_past : (xs : List Node) (n : ℕ) → length xs ≤ n → slice_index_or xs n stray ≡ stray
stray_past [] n past = refl
stray_past (a ∷ xs) zero past = absurd (omega arith)
stray_past (a ∷ xs) (suc n) past = stray_past xs n (omega arith)

-- no name stands past the nodes
pub none_past : (t : Tree) (d n : ℕ) (name : List ℕ) → next_of t ≤ d → named_in (node_at t d) name ≡ Some n → ⊥
unfolding node_at
none_past t d n name past is = no_name name n (ap (λ x. named_in x name) (sym (stray_past t.nodes d past)) ∙ is)

-- ---- what was made

pub unmade : {t v : Tree} {n : ℕ} → next_of v ≡ next_of t → IsMade t v n → ⊥
unmade same made = let fresh = made.fresh in let there = made.there in absurd (omega arith)

-- a tree that makes nothing
pub none_made : (Seen : ℕ → Type 0) {t : Tree} {n : ℕ} → OrMade Seen t t n → Seen n
none_made Seen (inl old) = old
none_made Seen (inr made) = absurd (unmade refl made)

pub below_or : (m n : ℕ) → (m < n) ⊎ (n ≤ m)
below_or m n = grind arith

-- what was made from a tree to a later one, over a tree between
module _ (Seen : ℕ → Type 0) (t u v : Tree) where
  pub once : next_of t ≤ next_of u → next_of u ≤ next_of v → (n : ℕ) → OrMade (OrMade Seen t u) u v n
      → OrMade Seen t v n
  once first second n (inl (inl old)) = inl old
  once first second n (inl (inr made)) =
      inr (record { fresh = made.fresh; there = let there = made.there in omega arith })
  once first second n (inr made) = inr (record { fresh = let fresh = made.fresh in omega arith; there = made.there })

  pub twice : (n : ℕ) → OrMade Seen t v n → OrMade (OrMade Seen t u) u v n
  twice n (inl old) = inl (inl old)
  twice n (inr made) = elim (below_or n (next_of u)) [
    | inl old ↦ inl (inr (record { fresh = made.fresh; there = old }))
    | inr new ↦ inr (record { fresh = new; there = made.there })
  ]

-- the node that is made, and no other
made_node : (t : Tree) (d : ℕ) (name : List ℕ) (node : Node) → node_at (node_made t d name node) (next_of t) ≡ node
unfolding node_at
made_node t d name node = get_or_push _ node stray (next_of t) (length-set t.nodes d _)

only_next : (t : Tree) (d n : ℕ) (name : List ℕ) (node : Node) → IsMade t (node_made t d name node) n → n ≡ next_of t
only_next t d n name node made =
    let fresh = made.fresh in let there = made.there in omega (arith, made_next t d name node)

pub unless_value : {B : Type 0} (refused : Option ErrorCode) {x y : B} → unless refused x ≡ Ok y → x ≡ y
unless_value None is = cc
unless_value (Some code) is = absurd (cc)

pub one : {m n : ℕ} → Contains (m ∷ []) n → m ≡ n
one {m} {n} has = elim (Contains-push_cases [] m n has) [ inl none ↦ absurd (omega (arith, none.1)) | inr same ↦ same ]

-- ---- a node in place of another

-- the same one, in both trees
put_same : {Seen : ℕ → Type 0} {t u : Tree} → AgreeOn Seen t u → (m : ℕ) (x y : Node) (worked worked' : Nodes) → x ≡ y
    → AgreeOn Seen (changed t m x worked) (changed u m y worked')
unfolding node_at
put_same {t = t} {u = u} agree m x y worked worked' same = record {
  nodes = λ n seen. set_same t.nodes u.nodes m n x stray agree.next (agree.nodes n seen)
      ∙ ap (λ z. slice_index_or (slice_set u.nodes m z) n stray) same;
  next = length-set t.nodes m x ∙ agree.next ∙ sym (length-set u.nodes m y);
  limits = agree.limits;
}

-- nothing is made
unmade_agree : {Seen : ℕ → Type 0} (t : Tree) {v w : Tree} → next_of v ≡ next_of t → AgreeOn Seen v w
    → AgreeOn (OrMade Seen t v) v w
unmade_agree t same agree = record {
  nodes = λ n has. elim has [ inl old ↦ agree.nodes n old | inr made ↦ absurd (unmade same made) ];
  next = agree.next;
  limits = agree.limits;
}

-- where nothing was made the set alone is left
only_seen : {Seen : ℕ → Type 0} (t : Tree) {v w : Tree} → AgreeOn (OrMade Seen t v) v w → AgreeOn Seen v w
only_seen t agree = record { nodes = λ n has. agree.nodes n (inl has); next = agree.next; limits = agree.limits }

-- a name is moved alike
moved_same : {Seen : ℕ → Type 0} {t u : Tree} → AgreeOn Seen t u → (old : ℕ) (old_name : List ℕ) (new : ℕ)
    (new_name : List ℕ) (n : ℕ) → Seen old → Seen new
    → AgreeOn Seen (name_moved t old old_name new new_name n) (name_moved u old old_name new new_name n)
moved_same {t = t} {u = u} agree old old_name new new_name n seen has =
    let one = put_same agree old (without_name (node_at t old) old_name) (without_name (node_at u old) old_name)
    t.worked u.worked (ap (λ node. without_name node old_name) (agree.nodes old seen)) in
    put_same one new (with_name (node_at (name_taken t old old_name) new) new_name n)
    (with_name (node_at (name_taken u old old_name) new) new_name n)
    (with_nodes t.worked (old ∷ new ∷ [])) (with_nodes u.worked (old ∷ new ∷ []))
    (ap (λ node. with_name node new_name n) (one.nodes new has))

-- ---- in a closed set

module _ {Seen : ℕ → Type 0} {t : Tree} (closed : IsClosed Seen t) where
  pub child_seen : (d n : ℕ) (name : List ℕ) → Seen d → child t d name ≡ Some n → Seen n
  unfolding child
  child_seen d n name seen is = by (is_dot_text name) is
    where
      by : (dot : Bool) → cond dot (Some d) (named_in (node_at t d) name) ≡ Some n → Seen n
      by true same = let e : d ≡ n = (cc) in subst Seen e seen
      by false same = closed.under d n name seen same

  -- what an open reaches is of the set, or made
  pub reached_seen : (d : ℕ) (name : List ℕ) (o : Options) → Seen d
      → OrMade Seen t (open_step t d name o) (reached t d name)
  unfolding reached open_step
  reached_seen d name o seen = by (child t d name) refl
    where
      by : (c : Option ℕ) → child t d name ≡ c → OrMade Seen t (opened_step t d name o c) (or_next c (next_of t))
      by None is = inr (next_is_made t d name new_file)
      by (Some n) is = inl (child_seen d n name seen is)

  pub reach_closed : {roots : List ℕ} → ((n : ℕ) → Contains roots n → Seen n) → (n : ℕ) → Reached t roots n → Seen n
  reach_closed rooted n (root m has) = rooted m has
  reach_closed rooted n (held d m name above has) = closed.under d m name (reach_closed rooted d above) has

  -- the set with what is made is closed again, where a name holds what it held, what is made, or what is reached
  pub leaves_closed : (u : Tree) {roots : List ℕ} → LeavesNear t roots u → ((n : ℕ) → Contains roots n → Seen n)
      → IsClosed (OrMade Seen t u) u
  leaves_closed u leaves from = record {
    under = λ d n name above has. elim (leaves.names d n name has) [
      | inl was ↦ inl (was_seen d n name above was)
      | inr (inl made) ↦ inr made
      | inr (inr near) ↦ inl (reach_closed from n near)
    ];
  }
    where
      was_seen : (d n : ℕ) (name : List ℕ) → OrMade Seen t u d → named_in (node_at t d) name ≡ Some n → Seen n
      was_seen d n name (inl old) was = closed.under d n name old was
      was_seen d n name (inr new) was = absurd (none_past t d n name new.fresh was)

  pub still_closed : IsClosed (OrMade Seen t t) t
  still_closed = record { under = λ d n name has is. inl (closed.under d n name (none_made Seen has) is) }

pub itself : {Seen : ℕ → Type 0} {t : Tree} → AgreeOn Seen t t
itself = record { nodes = λ n has. refl; next = refl; limits = refl }

-- ---- over two trees that agree on a closed set

module _ {Seen : ℕ → Type 0} {t u : Tree} (closed : IsClosed Seen t) (agree : AgreeOn Seen t u) where
  -- a name is looked up alike
  pub child_same : (d : ℕ) (name : List ℕ) → Seen d → child t d name ≡ child u d name
  unfolding child
  child_same d name seen = rw (agree.nodes d seen) refl

  -- a test of the node under a name
  pub holds_same : (d : ℕ) (name : List ℕ) (p : Node → Bool) → Seen d → holds t d name p ≡ holds u d name p
  holds_same d name p seen = by (child t d name) refl
    where
      by : (c : Option ℕ) → child t d name ≡ c → holds t d name p ≡ holds u d name p
      by None is = rw (sym (child_same d name seen) ∙ is, is) refl
      by (Some n) is =
          rw (sym (child_same d name seen) ∙ is, is, agree.nodes n (child_seen closed d n name seen is)) refl

  -- a test of the number of the node under a name
  passes_same : (d : ℕ) (name : List ℕ) (p q : ℕ → Bool) → Seen d → ((n : ℕ) → Seen n → p n ≡ q n)
      → passes p (child t d name) ≡ passes q (child u d name)
  passes_same d name p q seen same = by (child t d name) refl
    where
      by : (c : Option ℕ) → child t d name ≡ c → passes p (child t d name) ≡ passes q (child u d name)
      by None is = rw (sym (child_same d name seen) ∙ is, is) refl
      by (Some n) is =
          rw (sym (child_same d name seen) ∙ is, is) (same n (child_seen closed d n name seen is))

  -- what is below a node
  within_same : (names top n : ℕ) → Seen top → is_within t names top n ≡ is_within u names top n
  unfolding is_within
  within_same zero top n seen = refl
  within_same (suc names) top n seen =
      let held : Names = names_of (node_at t top).content in
      ap (λ b. nat_eq n top || b)
      (any_same (λ e. is_within t names e.1 n) (λ e. is_within u names e.1 n) (maps.entries held) (λ i e short.
      within_same names (get_or (maps.entries held) i e).1 n
      (closed.under top (get_or (maps.entries held) i e).1 (get_or (maps.entries held) i e).0 seen
      (get_entry held i e short))))
      ∙ ap (λ (x : Node). nat_eq n top || list_any (λ e. is_within u names e.1 n) (maps.entries (names_of x.content)))
      (agree.nodes top seen)

  pub below_same : (top n : ℕ) → Seen top → is_below t top n ≡ is_below u top n
  below_same top n seen =
      within_same (next_of t) top n seen ∙ ap (λ names. is_within u names top n) agree.next

  above_same : (d : ℕ) (name : List ℕ) (n : ℕ) → Seen d
      → finds_above t (child t d name) n ≡ finds_above u (child u d name) n
  above_same d name n seen =
      passes_same d name (λ top. is_below t top n) (λ top. is_below u top n) seen (λ top has. below_same top n has)

  -- a call is refused alike
  pub refused_same : (call : HostCall) → ((n : ℕ) → Contains (starts_of call) n → Seen n)
      → refusal t call ≡ refusal u call
  unfolding refusal
  refused_same (OpenAt d name o) from = by (child t d name) refl
    where
      seen : Seen d
      seen = from d (Contains-push [] d)

      by : (c : Option ℕ) → child t d name ≡ c → refusal t (OpenAt d name o) ≡ refusal u (OpenAt d name o)
      by None is = rw (sym (child_same d name seen) ∙ is, is, agree.nodes d seen, agree.next, agree.limits) refl
      by (Some n) is =
          let held_same = agree.nodes n (child_seen closed d n name seen is) in
          rw (sym (child_same d name seen) ∙ is, is, agree.nodes d seen, held_same) refl
  refused_same (StatAt d name) from =
      let seen = from d (Contains-push [] d) in rw (child_same d name seen, agree.nodes d seen) refl
  refused_same (ReadLinkAt d name) from =
      let seen = from d (Contains-push [] d) in
      rw (holds_same d name (λ n. is_link n.content) seen, child_same d name seen, agree.nodes d seen) refl
  refused_same (MakeDirAt d name) from =
      let seen = from d (Contains-push [] d) in
      rw (child_same d name seen, agree.nodes d seen, agree.next, agree.limits) refl
  refused_same (SymlinkAt text d name) from =
      let seen = from d (Contains-push [] d) in
      rw (child_same d name seen, agree.nodes d seen, agree.next, agree.limits) refl
  refused_same (LinkAt old old_name new new_name) from =
      let seen = from old (Contains-here old (new ∷ [])) in
      let has = from new (Contains-push (old ∷ []) new) in
      rw (
        holds_same old old_name (λ n. is_directory n.content) seen,
        holds_same old old_name (λ n. nat_le t.limits.links (links_of n.content)) seen,
        child_same old old_name seen,
        child_same new new_name has,
        agree.nodes old seen,
        agree.nodes new has,
        agree.limits,
      ) refl
  refused_same (RenameAt old old_name new new_name requires_dir) from =
      let seen = from old (Contains-here old (new ∷ [])) in
      let has = from new (Contains-push (old ∷ []) new) in
      rw (
        above_same old old_name new seen,
        above_same new new_name old has,
        holds_same old old_name (λ n. is_directory n.content) seen,
        holds_same old old_name (λ n. is_directory n.content && not n.bits.w) seen,
        holds_same new new_name (λ n. is_directory n.content) has,
        holds_same new new_name (λ n. not (is_directory n.content)) has,
        holds_same new new_name (λ n. is_directory n.content && not (is_bare n)) has,
        child_same old old_name seen,
        child_same new new_name has,
        agree.nodes old seen,
        agree.nodes new has,
      ) refl
  refused_same (UnlinkAt d name) from =
      let seen = from d (Contains-push [] d) in
      rw (holds_same d name (λ n. is_directory n.content) seen, child_same d name seen, agree.nodes d seen) refl
  refused_same (RemoveDirAt d name) from =
      let seen = from d (Contains-push [] d) in
      rw (
        holds_same d name (λ n. is_directory n.content) seen,
        holds_same d name is_bare seen,
        child_same d name seen,
        agree.nodes d seen,
      ) refl
  refused_same (TimesAt d name atime mtime) from =
      let seen = from d (Contains-push [] d) in rw (child_same d name seen, agree.nodes d seen) refl
  refused_same (Access d) from = rw (agree.nodes d (from d (Contains-push [] d))) refl
  refused_same (Stat n) from = refl
  refused_same (SetTimes n atime mtime) from = refl
  refused_same (Pread file offset n) from = rw (agree.nodes file.node (from file.node (Contains-push [] file.node))) refl
  refused_same (Pwrite file offset piece) from = refl
  refused_same (Append file piece) from = rw (agree.nodes file.node (from file.node (Contains-push [] file.node))) refl
  refused_same (SetSize file size) from = refl
  refused_same (Sync n) from = refl
  refused_same (Advise n offset length advice) from = refl
  refused_same (Flags n) from = refl
  refused_same (ListDir stands) from = rw (agree.nodes stands.node (from stands.node (Contains-push [] stands.node))) refl
  refused_same (Dup copied) from = refl
  refused_same Close from = refl

  -- the text of the link under a name
  pub text_same : (d : ℕ) (name : List ℕ) → Seen d → link_text t d name ≡ link_text u d name
  unfolding link_text
  text_same d name seen = by (child t d name) refl
    where
      by : (c : Option ℕ) → child t d name ≡ c → text_held t (child t d name) ≡ text_held u (child u d name)
      by None is = rw (sym (child_same d name seen) ∙ is, is) refl
      by (Some n) is =
          rw (sym (child_same d name seen) ∙ is, is, agree.nodes n (child_seen closed d n name seen is)) refl

  -- an entry is listed alike
  listed_same : (d : ℕ) (entry : List ℕ × ℕ) → Seen d → named_in (node_at t d) entry.0 ≡ Some entry.1
      → listed t entry ≡ listed u entry
  listed_same d entry seen is =
      ap (λ (x : Node). (entry.0, kind_of x.content)) (agree.nodes entry.1 (closed.under d entry.1 entry.0 seen is))

  -- and so is a directory
  pub listing_same : (d : ℕ) → Seen d → listing t d ≡ listing u d
  unfolding listing
  listing_same d seen =
      let names : Names = names_of (node_at t d).content in
      map_same (listed t) (listed u) (maps.entries names) (λ i e short.
      listed_same d (get_or (maps.entries names) i e) seen (get_entry names i e short))
      ∙ ap (λ (x : Node). map (listed u) (maps.entries (names_of x.content))) (agree.nodes d seen)

  -- a name comes to one node
  pub reached_same : (d : ℕ) (name : List ℕ) → Seen d → reached t d name ≡ reached u d name
  unfolding reached
  reached_same d name seen = rw (child_same d name seen, agree.next) refl

  -- what is told of the node under a name is alike, and of a number past the nodes that of none
  told_same : (d : ℕ) (name : List ℕ) → Seen d → metadata_of t (reached t d name) ≡ metadata_of u (reached u d name)
  unfolding metadata_of reached
  told_same d name seen = rw (← child_same d name seen) (by (child t d name) refl)
    where
      by : (c : Option ℕ) → child t d name ≡ c → metadata_of t (or_next c (next_of t)) ≡ metadata_of u (or_next c (next_of u))
      by None is =
          rw (node_at-past t (next_of t) (omega arith), node_at-past u (next_of u) (omega arith), agree.next) refl
      by (Some n) is = rw (agree.nodes n (child_seen closed d n name seen is)) refl

  -- a call is answered alike
  pub answer_same : (call : HostCall) → ((n : ℕ) → Contains (starts_of call) n → Seen n)
      → host_answer t call ≡ host_answer u call
  unfolding metadata_of
  answer_same (OpenAt d name o) from =
      rw (refused_same (OpenAt d name o) from, reached_same d name (from d (Contains-here d []))) refl
  answer_same (StatAt d name) from =
      ap (λ c. unless c (metadata_of t (reached t d name))) (refused_same (StatAt d name) from)
      ∙ ap (unless (refusal u (StatAt d name))) (told_same d name (from d (Contains-here d [])))
  answer_same (ReadLinkAt d name) from =
      rw (refused_same (ReadLinkAt d name) from, text_same d name (from d (Contains-here d []))) refl
  answer_same (MakeDirAt d name) from = rw (refused_same (MakeDirAt d name) from) refl
  answer_same (SymlinkAt text d name) from = rw (refused_same (SymlinkAt text d name) from) refl
  answer_same (LinkAt old old_name new new_name) from = rw (refused_same (LinkAt old old_name new new_name) from) refl
  answer_same (RenameAt old old_name new new_name requires_dir) from =
      rw (refused_same (RenameAt old old_name new new_name requires_dir) from) refl
  answer_same (UnlinkAt d name) from = rw (refused_same (UnlinkAt d name) from) refl
  answer_same (RemoveDirAt d name) from = rw (refused_same (RemoveDirAt d name) from) refl
  answer_same (TimesAt d name atime mtime) from = rw (refused_same (TimesAt d name atime mtime) from) refl
  answer_same (Access d) from = rw (refused_same (Access d) from) refl
  answer_same (Stat n) from = rw (refused_same (Stat n) from, agree.nodes n (from n (Contains-here n []))) refl
  answer_same (SetTimes n atime mtime) from = rw (refused_same (SetTimes n atime mtime) from) refl
  answer_same (Pread file offset n) from =
      rw (refused_same (Pread file offset n) from, agree.nodes file.node (from file.node (Contains-here file.node []))) refl
  answer_same (Pwrite file offset piece) from = rw (refused_same (Pwrite file offset piece) from) refl
  answer_same (Append file piece) from = rw (refused_same (Append file piece) from) refl
  answer_same (SetSize file size) from = rw (refused_same (SetSize file size) from) refl
  answer_same (Sync n) from = rw (refused_same (Sync n) from) refl
  answer_same (Advise n offset length advice) from = rw (refused_same (Advise n offset length advice) from) refl
  answer_same (Flags n) from = rw (refused_same (Flags n) from) refl
  answer_same (ListDir stands) from =
      rw (refused_same (ListDir stands) from, listing_same stands.node (from stands.node (Contains-here stands.node []))) refl
  answer_same (Dup copied) from = refl
  answer_same Close from = refl

  pub same_agree : AgreeOn (OrMade Seen t t) t u
  same_agree = record { nodes = λ n has. agree.nodes n (none_made Seen has); next = agree.next; limits = agree.limits }

  made_old : (d n : ℕ) (name : List ℕ) (node : Node) → Seen d → Seen n
      → node_at (node_made t d name node) n ≡ node_at (node_made u d name node) n
  unfolding node_at
  made_old d n name node seen has =
      let changed : Node = with_name (node_at t d) name (next_of t) in
      let same : changed ≡ with_name (node_at u d) name (next_of u) = rw (agree.nodes d seen, agree.next) refl in
      let long : length (slice_set t.nodes d changed) ≡ length (slice_set u.nodes d changed) =
      length-set t.nodes d changed ∙ agree.next ∙ sym (length-set u.nodes d changed) in
      push_same (slice_set t.nodes d changed) (slice_set u.nodes d changed) n node stray long
      (set_same t.nodes u.nodes d n changed stray agree.next (agree.nodes n has))
      ∙ ap (λ x. slice_index_or (slice_set u.nodes d x ++ node ∷ []) n stray) same

  made_agree : (d : ℕ) (name : List ℕ) (node : Node) → Seen d
      → AgreeOn (OrMade Seen t (node_made t d name node)) (node_made t d name node) (node_made u d name node)
  made_agree d name node seen = record {
    nodes = λ n has. elim has [
      | inl old ↦ made_old d n name node seen old
      | inr made ↦ let at = only_next t d n name node made in
          ap (node_at (node_made t d name node)) at ∙ made_node t d name node
          ∙ sym (ap (node_at (node_made u d name node)) (at ∙ agree.next) ∙ made_node u d name node)
    ];
    next = made_next t d name node ∙ ap (λ k. k + 1) agree.next ∙ sym (made_next u d name node);
    limits = agree.limits;
  }

  -- a node is changed alike
  put_agree : (m : ℕ) (change : Node → Node) (worked worked' : Nodes) → Seen m
      → AgreeOn (OrMade Seen t (changed t m (change (node_at t m)) worked))
      (changed t m (change (node_at t m)) worked) (changed u m (change (node_at u m)) worked')
  put_agree m change worked worked' seen =
      let x : Node = change (node_at t m) in
      unmade_agree t (length-set t.nodes m x)
      (put_same agree m x (change (node_at u m)) worked worked' (ap change (agree.nodes m seen)))

  -- two nodes are
  both_agree : (d n : ℕ) (first second : Node → Node) (worked worked' : Nodes) → Seen d → Seen n
      → AgreeOn (OrMade Seen t (changed (changed t d (first (node_at t d)) t.worked) n (second (node_at t n)) worked))
      (changed (changed t d (first (node_at t d)) t.worked) n (second (node_at t n)) worked)
      (changed (changed u d (first (node_at u d)) u.worked) n (second (node_at u n)) worked')
  both_agree d n first second worked worked' seen has =
      let x : Node = first (node_at t d) in
      let y : Node = second (node_at t n) in
      let one = put_same agree d x (first (node_at u d)) t.worked u.worked (ap first (agree.nodes d seen)) in
      unmade_agree t (length-set (slice_set t.nodes d x) n y ∙ length-set t.nodes d x)
      (put_same one n y (second (node_at u n)) worked worked' (ap second (agree.nodes n has)))

  -- a file gets the same bytes
  bytes_agree : (m : ℕ) (change : List ℕ → List ℕ) → Seen m
      → AgreeOn (OrMade Seen t (content_changed t m (other_bytes change))) (content_changed t m (other_bytes change))
      (content_changed u m (other_bytes change))
  bytes_agree m change seen =
      put_agree m (rewritten change) (with_nodes t.worked (m ∷ [])) (with_nodes u.worked (m ∷ [])) seen

  write_agree : (m offset : ℕ) (piece : List ℕ) → Seen m
      → AgreeOn (OrMade Seen t (write_step t m offset piece)) (write_step t m offset piece)
      (write_step u m offset piece)
  unfolding write_step
  write_agree m offset [] seen = same_agree
  write_agree m offset (byte ∷ bytes) seen = bytes_agree m (λ old. with_piece old offset (byte ∷ bytes)) seen

  append_agree : (m : ℕ) (piece : List ℕ) → Seen m
      → AgreeOn (OrMade Seen t (append_step t m piece)) (append_step t m piece) (append_step u m piece)
  append_agree m piece seen =
      let step : Tree = append_step t m piece in
      subst (λ (x : Node). AgreeOn (OrMade Seen t step) step (write_step u m (length (bytes_of x.content)) piece))
      (agree.nodes m seen)
      (write_agree m (length (bytes_of (node_at t m).content)) piece seen)

  pub opened_agree : (d : ℕ) (name : List ℕ) (o : Options) → Seen d
      → AgreeOn (OrMade Seen t (open_step t d name o)) (open_step t d name o) (open_step u d name o)
  unfolding open_step
  opened_agree d name o seen = rw (← child_same d name seen) (by (child t d name) refl)
    where
      cut_or : (n : ℕ) (cut : Bool) → Seen n
          → AgreeOn (OrMade Seen t (cond cut (file_cut t n) t)) (cond cut (file_cut t n) t) (cond cut (file_cut u n) u)
      cut_or n true has = bytes_agree n (with_size 0) has
      cut_or n false has = same_agree

      by : (c : Option ℕ) → child t d name ≡ c
          → AgreeOn (OrMade Seen t (opened_step t d name o c)) (opened_step t d name o c) (opened_step u d name o c)
      by None is = made_agree d name new_file seen
      by (Some n) is =
          let has = child_seen closed d n name seen is in
          let step : Tree = opened_step t d name o (Some n) in
          subst (λ (x : Node). AgreeOn (OrMade Seen t step) step (cond (is_cut o x.content) (file_cut u n) u))
          (agree.nodes n has)
          (cut_or n (is_cut o (node_at t n).content) has)

  -- a name is dropped alike
  drop_agree : (d n : ℕ) (name : List ℕ) (change : Content → Content) → Seen d → Seen n
      → AgreeOn (OrMade Seen t (name_dropped t d name change n)) (name_dropped t d name change n)
      (name_dropped u d name change n)
  drop_agree d n name change seen has =
      both_agree d n (λ node. without_name node name) (λ node. record node { content = change node.content })
      (with_nodes t.worked (d ∷ n ∷ [])) (with_nodes u.worked (d ∷ n ∷ [])) seen has

  dropped_agree : (d : ℕ) (name : List ℕ) (change : Content → Content) → Seen d
      → AgreeOn (OrMade Seen t (dropped_step t d name change (child t d name)))
      (dropped_step t d name change (child t d name)) (dropped_step u d name change (child u d name))
  dropped_agree d name change seen = rw (← child_same d name seen) (by (child t d name) refl)
    where
      by : (c : Option ℕ) → child t d name ≡ c
          → AgreeOn (OrMade Seen t (dropped_step t d name change c)) (dropped_step t d name change c)
          (dropped_step u d name change c)
      by None is = same_agree
      by (Some n) is = drop_agree d n name change seen (child_seen closed d n name seen is)

  -- a name is added alike
  added_agree : (old new : ℕ) (old_name new_name : List ℕ) → Seen old → Seen new
      → AgreeOn (OrMade Seen t (added_step t new new_name (child t old old_name)))
      (added_step t new new_name (child t old old_name)) (added_step u new new_name (child u old old_name))
  added_agree old new old_name new_name seen has =
      rw (← child_same old old_name seen) (by (child t old old_name) refl)
    where
      by : (c : Option ℕ) → child t old old_name ≡ c
          → AgreeOn (OrMade Seen t (added_step t new new_name c)) (added_step t new new_name c)
          (added_step u new new_name c)
      by None is = same_agree
      by (Some n) is =
          both_agree new n (λ node. with_name node new_name n)
          (λ node. record node { content = one_name_more node.content })
          (with_nodes t.worked (new ∷ n ∷ [])) (with_nodes u.worked (new ∷ n ∷ [])) has
          (child_seen closed old n old_name seen is)

  -- a name is moved alike
  moves_agree : (old : ℕ) (old_name : List ℕ) (new : ℕ) (new_name : List ℕ) → Seen old → Seen new
      → AgreeOn (OrMade Seen t (moved_step t old old_name new new_name (child t old old_name)))
      (moved_step t old old_name new new_name (child t old old_name))
      (moved_step u old old_name new new_name (child u old old_name))
  moves_agree old old_name new new_name seen has =
      rw (← child_same old old_name seen) (by (child t old old_name) refl)
    where
      by : (c : Option ℕ) → child t old old_name ≡ c
          → AgreeOn (OrMade Seen t (moved_step t old old_name new new_name c))
          (moved_step t old old_name new new_name c) (moved_step u old old_name new new_name c)
      by None is = same_agree
      by (Some n) is =
          let before : Tree = dropped_step t new new_name name_lost (child t new new_name) in
          unmade_agree t
          (next_of-moved before old old_name new new_name n
          ∙ next_of-dropped_step t new new_name name_lost (child t new new_name))
          (moved_same (only_seen t (dropped_agree new new_name name_lost has)) old old_name new new_name n seen has)

  renamed_agree : (old : ℕ) (old_name : List ℕ) (new : ℕ) (new_name : List ℕ) → Seen old → Seen new
      → AgreeOn (OrMade Seen t (rename_step t old old_name new new_name)) (rename_step t old old_name new new_name)
      (rename_step u old old_name new new_name)
  unfolding rename_step
  renamed_agree old old_name new new_name seen has =
      let one : Bool = hold_one (child t old old_name) (child t new new_name) in
      let same : one ≡ hold_one (child u old old_name) (child u new new_name) =
      ap (λ c. hold_one c (child t new new_name)) (child_same old old_name seen)
      ∙ ap (hold_one (child u old old_name)) (child_same new new_name has) in
      let moved : Tree = moved_step t old old_name new new_name (child t old old_name) in
      let moved' : Tree = moved_step u old old_name new new_name (child u old old_name) in
      subst (λ b. AgreeOn (OrMade Seen t (cond one t moved)) (cond one t moved) (cond b u moved')) same
      (either one moved moved' (moves_agree old old_name new new_name seen has))
    where
      either : (b : Bool) (v w : Tree) → AgreeOn (OrMade Seen t v) v w
          → AgreeOn (OrMade Seen t (cond b t v)) (cond b t v) (cond b u w)
      either true v w moved = same_agree
      either false v w moved = moved

  -- times are set alike
  times_agree : (n : ℕ) (atime mtime : Option SystemTime) → Seen n
      → AgreeOn (OrMade Seen t (times_set t n atime mtime)) (times_set t n atime mtime) (times_set u n atime mtime)
  times_agree n atime mtime seen =
      put_agree n (λ node. with_times node atime mtime) (with_nodes t.worked (n ∷ [])) (with_nodes u.worked (n ∷ [])) seen

  times_at_agree : (d : ℕ) (name : List ℕ) (atime mtime : Option SystemTime) → Seen d
      → AgreeOn (OrMade Seen t (times_set_if t atime mtime (child t d name)))
      (times_set_if t atime mtime (child t d name)) (times_set_if u atime mtime (child u d name))
  times_at_agree d name atime mtime seen = rw (← child_same d name seen) (by (child t d name) refl)
    where
      by : (c : Option ℕ) → child t d name ≡ c
          → AgreeOn (OrMade Seen t (times_set_if t atime mtime c)) (times_set_if t atime mtime c)
          (times_set_if u atime mtime c)
      by None is = same_agree
      by (Some n) is = times_agree n atime mtime (child_seen closed d n name seen is)

  -- ---- any call

  -- the trees after a call are again equal on the set and on what was made
  pub step_agree : (call : HostCall) → ((n : ℕ) → Contains (starts_of call) n → Seen n)
      → AgreeOn (OrMade Seen t (step t call)) (step t call) (step u call)
  unfolding unlink_step remove_step link_step rename_step times_step
  step_agree (OpenAt d name o) from = opened_agree d name o (from d (Contains-push [] d))
  step_agree (StatAt d name) from = same_agree
  step_agree (ReadLinkAt d name) from = same_agree
  step_agree (MakeDirAt d name) from = made_agree d name new_directory (from d (Contains-push [] d))
  step_agree (SymlinkAt text d name) from = made_agree d name (new_link text) (from d (Contains-push [] d))
  step_agree (LinkAt old old_name new new_name) from =
      added_agree old new old_name new_name (from old (Contains-here old (new ∷ []))) (from new (Contains-push (old ∷ []) new))
  step_agree (RenameAt old old_name new new_name requires_dir) from =
      renamed_agree old old_name new new_name (from old (Contains-here old (new ∷ []))) (from new (Contains-push (old ∷ []) new))
  step_agree (UnlinkAt d name) from = dropped_agree d name one_name_less (from d (Contains-push [] d))
  step_agree (RemoveDirAt d name) from = dropped_agree d name made_gone (from d (Contains-push [] d))
  step_agree (TimesAt d name atime mtime) from = times_at_agree d name atime mtime (from d (Contains-push [] d))
  step_agree (Access d) from = same_agree
  step_agree (Stat n) from = same_agree
  step_agree (SetTimes n atime mtime) from = times_agree n atime mtime (from n (Contains-push [] n))
  step_agree (Pread file offset n) from = same_agree
  step_agree (Pwrite file offset piece) from = write_agree file.node offset piece (from file.node (Contains-push [] file.node))
  step_agree (Append file piece) from = append_agree file.node piece (from file.node (Contains-push [] file.node))
  step_agree (SetSize file size) from =
      bytes_agree file.node (with_size size) (from file.node (Contains-push [] file.node))
  step_agree (Sync n) from = same_agree
  step_agree (Advise n offset length advice) from = same_agree
  step_agree (Flags n) from = same_agree
  step_agree (ListDir stands) from = same_agree
  step_agree (Dup copied) from = same_agree
  step_agree Close from = same_agree
