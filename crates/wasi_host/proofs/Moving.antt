-- A name that moves from a directory to another, or to another name of the same.
use Rattle.std.proofs.Common.{◌≡◌, ◌≢◌, ℕ, ◌<◌, ◌≤◌, true, false, List, [], ◌∷◌, Some, None, inl, inr, refl, sym, ap, ◌∙◌, subst, arith}
use Rattle.std.specs.List.{All}
use Rattle.std.specs.FinMap as maps
use Rattle.std.specs.Str.{IsUtf8}
use Rattle.std.proofs.lemmas.Bool.{true≢false, cases_eq}
use Rattle.std.proofs.lemmas.List.Sums.{sum_by-set}
use Rattle.wasi_host.specs.Tree.{Tree, Node, Content, File, Directory, Link, Names, node_at, next_of, names_of, is_directory, is_gone, stray}
use Rattle.wasi_host.specs.ValidTree.{is_entry_name, names_for, name_count, Reached, root, held, IsEntry, IsValidContent, IsValidTree}
use Rattle.wasi_host.specs.Step.{without_name, with_name, name_lost, name_dropped, name_taken, name_moved}
use Rattle.wasi_host.proofs.Changes as changes
use Rattle.wasi_host.proofs.Changes.{changed, directory_within}
use Rattle.wasi_host.proofs.EntryLemmas.{unnamed, times-removed, times-inserted, All-removed, All-inserted, get-left, get-kept, get-inserted, get-removed, get-still_none}
use Rattle.wasi_host.proofs.Leaving.{named_in, Leaves, lost_names, dropped_leaves}
use Rattle.wasi_host.proofs.Carrying.{Carries, StillNamed, entries_still, content_still, directory_still, valid_still, reached_among, valid_entries, named_within, stays_or_gone}
use Rattle.wasi_host.proofs.Making.{Lacks}
use Rattle.wasi_host.proofs.Dropping.{Drops, HasOneLess, content_less, content_gone, one_less, not_root, apart, still_named, carries-dropped, valid-dropped, both}
use Rattle.wasi_host.proofs.Touching.{at_root}

-- ---- what the new name held

content_lost : {t u : Tree} {n : ℕ} → HasOneLess t u n → (content : Content) → names_of content ≡ maps.empty → 0 < n
    → (node_at u n).content ≡ name_lost content → IsValidContent t n content → IsValidContent u n (name_lost content)
content_lost less (File bytes links) bare positive now v = content_less less (File bytes links) refl v
content_lost less (Directory names gone) bare positive now v =
    content_gone less (Directory names gone) refl bare positive now v
content_lost less (Link text links) bare positive now v = content_less less (Link text links) refl v

pub valid-lost : {t : Tree} {d n : ℕ} {name : List ℕ} → Drops t d name n → IsValidTree t
    → IsValidTree (name_dropped t d name name_lost n)
valid-lost {t} {d} {n} {name} drops valid =
    let content : Content = (node_at t n).content in
    let positive : 0 < n = omega (arith, not_root drops valid name_lost lost_names) in
    let now = ap (λ (node : Node). node.content) (both drops valid name_lost lost_names).second in
    let was = valid.nodes n (named_within t d valid drops.directory name n drops.named) in
    valid-dropped drops valid name_lost lost_names
    (content_lost (one_less drops valid name_lost lost_names) content drops.bare positive now was)

-- ---- onto a name that is missing

pub record CanMove (t : Tree) (old : ℕ) (old_name : List ℕ) (new : ℕ) (new_name : List ℕ) (n : ℕ) : Type 0 where
  pub directory : is_directory (node_at t old).content ≡ true
  pub named : maps.get (names_of (node_at t old).content) old_name ≡ Some n
  pub lacks : Lacks t new new_name
  pub apart : Reached t (n ∷ []) new → ⊥

module _ {t : Tree} {old new n : ℕ} {old_name new_name : List ℕ} (can : CanMove t old old_name new new_name n)
    (valid : IsValidTree t) where
  abbrev old_names : Names
  old_names = names_of (node_at t old).content

  abbrev parent : Node
  parent = without_name (node_at t old) old_name

  abbrev half : Tree
  half = name_taken t old old_name

  abbrev half_names : Names
  half_names = names_of (node_at half new).content

  abbrev target : Node
  target = with_name (node_at half new) new_name n

  abbrev moved : Tree
  moved = name_moved t old old_name new new_name n

  old_within : old < next_of t
  old_within = directory_within t old can.directory

  new_within : new < next_of t
  new_within = directory_within t new can.lacks.directory

  next_of-half : next_of half ≡ next_of t
  next_of-half = changes.next_of-changed t old parent t.worked

  half_within : new < next_of half
  half_within = omega (arith, new_within, next_of-half)

  next_of-move : next_of moved ≡ next_of t
  next_of-move = changes.next_of-changed half new target moved.worked ∙ next_of-half

  half-old : node_at half old ≡ parent
  half-old = changes.node_at-changed t old parent t.worked old_within

  half-other : (k : ℕ) → k ≢ old → node_at half k ≡ node_at t k
  half-other k other = changes.node_at-other t old parent t.worked old_within k other

  moved-new : node_at moved new ≡ target
  moved-new = changes.node_at-changed half new target moved.worked half_within

  moved-other : (k : ℕ) → k ≢ new → node_at moved k ≡ node_at half k
  moved-other k other = changes.node_at-other half new target moved.worked half_within k other

  -- the name is missing then too
  missing : maps.get half_names new_name ≡ None
  missing = elim (cases_eq new old) [
    | inl here ↦
        rw (here, half-old) (get-still_none old_names old_name new_name (rw here at can.lacks.missing))
    | inr other ↦ rw (half-other new other) can.lacks.missing
  ]

  -- ---- what is kept everywhere

  half-kept : {B : Type 0} (f : Node → B) → f parent ≡ f (node_at t old) → (k : ℕ) → f (node_at half k) ≡ f (node_at t k)
  half-kept f same k = changes.node_at-same t old parent t.worked old_within f same k

  kept : {B : Type 0} (f : Node → B) → f parent ≡ f (node_at t old) → f target ≡ f (node_at half new) → (k : ℕ)
      → f (node_at moved k) ≡ f (node_at t k)
  kept f first second k =
      changes.node_at-same half new target moved.worked half_within f second k ∙ half-kept f first k

  half-directory : (k : ℕ) → is_directory (node_at half k).content ≡ is_directory (node_at t k).content
  half-directory k = half-kept (λ node. is_directory node.content) (sym can.directory) k

  name_count-moved : (k : ℕ) → name_count moved k ≡ name_count t k
  unfolding node_at
  name_count-moved k =
      omega (
        arith,
        times-removed old_names old_name n can.named k,
        times-inserted half_names new_name n missing k,
        sum_by-set (names_for k) t.nodes old parent stray old_within,
        sum_by-set (names_for k) half.nodes new target stray half_within,
      )

  -- ---- which names stay

  -- those of other nodes
  stays : (d m : ℕ) (q : List ℕ) → m ≢ n → named_in (node_at t d) q ≡ Some m → named_in (node_at moved d) q ≡ Some m
  stays d m q other is =
      let before : named_in (node_at half d) q ≡ Some m = elim (cases_eq d old) [
        | inl here ↦ rw (here, half-old) (get-left old_names old_name n can.named q m other (rw here at is))
        | inr not_old ↦ rw (half-other d not_old) is
      ] in
      elim (cases_eq d new) [
        | inl here ↦ rw (here, moved-new) (get-kept half_names new_name n missing q m (rw here at before))
        | inr not_new ↦ rw (moved-other d not_new) before
      ]

  -- no way to what isn't below the node leads over it
  apart_named : StillNamed t moved (λ k. Reached t (n ∷ []) k → ⊥)
  apart_named = record {
    names = λ d m q not_below is. (
      λ below. not_below (held d m q below is),
      stays d m q (λ here. not_below (subst (Reached t (n ∷ [])) (sym here) (at_root t n))) is,
    );
  }

  new_reached : Reached moved (0 ∷ []) new
  new_reached = elim (stays_or_gone t new valid can.lacks.directory) [
    | inl stays ↦ reached_among t moved (λ k. Reached t (n ∷ []) k → ⊥) apart_named new can.apart stays.1
    | inr gone ↦ absurd (true≢false (sym gone.0 ∙ can.lacks.stays))
  ]

  node_reached : Reached moved (0 ∷ []) n
  node_reached = held new n new_name new_reached (rw moved-new (get-inserted half_names new_name n missing))

  -- the node is reached by its new name, and what is below it from there
  still_reached : (k : ℕ) → Reached t (0 ∷ []) k → Reached moved (0 ∷ []) k
  still_reached _ (root k has) = root k has
  still_reached _ (held d k name from is) = elim (cases_eq k n) [
    | inl here ↦ subst (Reached moved (0 ∷ [])) (sym here) node_reached
    | inr other ↦ held d k name (still_reached d from) (stays d k name other is)
  ]

  -- ---- so the tree is valid again

  -- a directory that has a name isn't gone
  old_stays : is_gone (node_at t old).content ≡ false
  old_stays = elim (stays_or_gone t old valid can.directory) [
    | inl stays ↦ stays.0
    | inr gone ↦ absurd (unnamed old_names old_name n gone.1 can.named)
  ]

  carries-moved : (k : ℕ) → Carries t moved k
  carries-moved k = record {
    limits = refl;
    next = omega (arith, next_of-move);
    count = name_count-moved k;
    reached = still_reached k;
    directory =
        kept (λ node. is_directory node.content) (sym can.directory)
        (sym (half-directory new ∙ can.lacks.directory)) k;
    gone = kept (λ node. is_gone node.content) refl refl k;
    emptied = λ gone.
        let not_old : k ≢ old = λ here. true≢false (sym (rw here at gone) ∙ old_stays) in
        let not_new : k ≢ new = λ here. true≢false (sym (rw here at gone) ∙ can.lacks.stays) in
        ap (λ (node : Node). names_of node.content) (moved-other k not_new ∙ half-other k not_old);
  }

  entries_before : (k : ℕ) → is_directory (node_at t k).content ≡ true
      → All (IsEntry moved) (maps.entries (names_of (node_at t k).content))
  entries_before k directory =
      entries_still t moved (maps.entries (names_of (node_at t k).content)) (omega (arith, next_of-move))
      (valid_entries t k valid directory)

  entries_half : (k : ℕ) → is_directory (node_at t k).content ≡ true
      → All (IsEntry moved) (maps.entries (names_of (node_at half k).content))
  entries_half k directory = elim (cases_eq k old) [
    | inl here ↦
        rw (here, half-old)
        (All-removed old_names old_name n can.named (IsEntry moved) (entries_before old can.directory))
    | inr other ↦ rw (half-other k other) (entries_before k directory)
  ]

  entry_new : IsEntry moved (new_name, n)
  entry_new = record {
    name = can.lacks.good;
    utf8 = can.lacks.utf8;
    within = let within = named_within t old valid can.directory old_name n can.named in omega (arith, within, next_of-move);
  }

  valid-target : IsValidContent moved new target.content
  valid-target =
      subst (λ gone. IsValidContent moved new (Directory (maps.insert half_names new_name n) gone))
      (sym (half-kept (λ node. is_gone node.content) refl new))
      (directory_still (carries-moved new) (node_at t new).content (maps.insert half_names new_name n)
      can.lacks.directory (valid.nodes new new_within)
      (All-inserted half_names new_name n missing (IsEntry moved) entry_new
      (entries_half new can.lacks.directory)))

  valid-source : IsValidContent moved old parent.content
  valid-source =
      directory_still (carries-moved old) (node_at t old).content (maps.remove old_names old_name) can.directory
      (valid.nodes old old_within)
      (All-removed old_names old_name n can.named (IsEntry moved) (entries_before old can.directory))

  pub valid-moved : IsValidTree moved
  valid-moved =
      let room : next_of moved ≤ t.limits.nodes = omega (arith, next_of-move, valid.numbers) in
      valid_still t moved (carries-moved 0) valid room (λ k h.
      elim (cases_eq k new) [
        | inl here ↦ rw (here, moved-new) valid-target
        | inr not_new ↦ elim (cases_eq k old) [
          | inl here ↦
              rw (here, moved-other old (λ same. not_new (here ∙ same)), half-old) valid-source
          | inr not_old ↦
              let before : k < next_of t = omega (arith, next_of-move, h) in
              rw (moved-other k not_new, half-other k not_old)
              (content_still (carries-moved k) (node_at t k).content (valid.nodes k before))
        ]
      ])

-- ---- onto a name that holds another node, without names of its own

-- what was reached after a step that makes nothing was reached before
reached_before : {t t' : Tree} {roots : List ℕ} → Leaves t t' → next_of t' ≡ next_of t → (n : ℕ) → Reached t' roots n
    → Reached t roots n
reached_before leaves same _ (root n has) = root n has
reached_before leaves same _ (held d n name from is) = elim (leaves.names d n name is) [
  | inl was ↦ held d n name (reached_before leaves same d from) was
  | inr made ↦ absurd (omega (arith, made.fresh, made.there, same))
]

pub record CanReplace (t : Tree) (old : ℕ) (old_name : List ℕ) (new : ℕ) (new_name : List ℕ) (n m : ℕ) : Type 0 where
  pub directory : is_directory (node_at t old).content ≡ true
  pub named : maps.get (names_of (node_at t old).content) old_name ≡ Some n
  pub drops : Drops t new new_name m
  pub good : is_entry_name new_name ≡ true
  pub utf8 : IsUtf8 new_name
  pub stays : is_gone (node_at t new).content ≡ false
  pub below : Reached t (n ∷ []) new → ⊥
  pub other : n ≢ m

module _ {t : Tree} {old new n m : ℕ} {old_name new_name : List ℕ}
    (can : CanReplace t old old_name new new_name n m) (valid : IsValidTree t) where
  abbrev cleared : Tree
  cleared = name_dropped t new new_name name_lost m

  -- it has names, and what is replaced has none
  old_other : old ≢ m
  old_other same =
      unnamed (names_of (node_at t old).content) old_name n
      (ap (λ k. names_of (node_at t k).content) same ∙ can.drops.bare) can.named

  carries-cleared : (k : ℕ) → k ≢ m → Carries t cleared k
  carries-cleared k other = carries-dropped can.drops valid name_lost lost_names k other

  new_other : new ≢ m
  new_other = apart can.drops valid name_lost lost_names

  can_move : CanMove cleared old old_name new new_name n
  can_move = record {
    directory = (carries-cleared old old_other).directory ∙ can.directory;
    named = ((still_named can.drops valid name_lost lost_names).names old n old_name can.other can.named).1;
    lacks = record {
      directory = (carries-cleared new new_other).directory ∙ can.drops.directory;
      stays = (carries-cleared new new_other).gone ∙ can.stays;
      missing =
          rw (both can.drops valid name_lost lost_names).first
          (get-removed (names_of (node_at t new).content) new_name m can.drops.named);
      good = can.good;
      utf8 = can.utf8;
    };
    apart = λ below. can.below
        (reached_before (dropped_leaves t new new_name name_lost (Some m) lost_names)
        (both can.drops valid name_lost lost_names).next new below);
  }

  pub valid-replaced : IsValidTree (name_moved cleared old old_name new new_name n)
  valid-replaced = valid-moved can_move (valid-lost can.drops valid)
