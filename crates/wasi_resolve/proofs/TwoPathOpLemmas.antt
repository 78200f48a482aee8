-- What is done at two places: from the opens of both directories over the host's one call to their closes.
use Rattle.std.proofs.Common.{ℕ, ◌≡◌, ◌⊎◌, inl, inr, true, false, cond, Bool, List, [], ◌∷◌, ◌++◌, Option, Some, None, Result, Ok, Err, refl, sym, ap, subst, ◌∙◌, arith, length-set, slice_set}
use Rattle.std.specs.Prelude.{All, Contains}
use Rattle.std.specs.FinSet.{contains}
use Rattle.std.proofs.lemmas.List.Elements.{All-append, Contains-append_cases, Contains-append_left, Contains-append_right}
use Rattle.wasi_host.specs.Tree.{Tree, Node, child, next_of, node_at, hold_one}
use Rattle.wasi_host.specs.ValidTree.{Reached, root}
use Rattle.wasi_host.specs.Answer.{HostAnswer}
use Rattle.wasi_host.specs.Step.{step, found_by, found_under, made_by, added_step, moved_step, link_step, rename_step, dropped_step, name_lost, with_name, one_name_more}
use Rattle.wasi_host.specs.Steps.{◌>>=◌}
use Rattle.wasi_host.specs.HostLaws.{HostModel, Handles, RefinesCall, MeansErr, Logged, both_looked}
use Rattle.wasi_host.specs.Provenance.{HasProvenance, Only, OneOf, Nothing}
use Rattle.wasi_host.specs.declared.lookup.Lookup.{Lookup}
use Rattle.wasi_host.specs.declared.errors.ErrorCode.{ErrorCode}
use Rattle.wasi_host.specs.declared.lookup.LookKind.{LookKind}
use Rattle.wasi_host.specs.declared.errors.HostError.{HostError}
use Rattle.wasi_host.proofs.Leaving.{LeavesFor, added_near, renamed_near, next_of-moved, next_of-dropped_step}
use Rattle.wasi_host.proofs.Touching.{reached_through, same_node}
use Rattle.wasi_host.proofs.Tracing.{traced_same, traced_given, traced_kept, traced_last, traced_then}
use Rattle.wasi_host.specs.declared.open_handle.OpenHandle.{OpenHandle}
use Rattle.wasi_paths.specs.Name.{name_bytes}
use Rattle.wasi_resolve.specs.Laws.{From, GivesIn}
use Rattle.wasi_resolve.specs.Paths.{Place, place}
use Rattle.wasi_resolve.specs.Finding.{FewReads}
use Rattle.wasi_resolve.specs.Resolved.{Meant, Resolved, links_read, call_meant}
use Rattle.wasi_resolve.specs.Parents.{directory_of, places_at, released, shown_place, GotIn, LiveIn}
use Rattle.wasi_resolve.specs.EntryOps.{ends_in}
use Rattle.wasi_resolve.specs.TwoPathOps.{TwoPathOp, HardLink, Rename, Places, places_in, call_at_two, answer_at_two, step_at_two, ends_at_two}
use Rattle.wasi_resolve.specs.TwoParents.{shown_places, both_at, both_released}
use Rattle.wasi_resolve.specs.WalkSteps.{OnlyLooks, ModelStays}
use Rattle.wasi_resolve.specs.declared.two_path_ops.TwoParents.{TwoParents}
use Rattle.wasi_resolve.specs.declared.parent.MaybeOwned.{MaybeOwned}
use Rattle.wasi_resolve.specs.declared.parent.MaybeOwned.TheVariants.{Borrowed, Owned}
use Rattle.wasi_resolve.specs.declared.parent.Parent.{Parent}
use Rattle.wasi_resolve.proofs.LawProofs.{paths_stay_in_reach}
use Rattle.wasi_resolve.proofs.Counting.{few_logged}
use Rattle.wasi_resolve.proofs.EntryOpLemmas.{child_after, all_ends, under_here, under_name, released_live, begins_at}
use Rattle.wasi_resolve.proofs.Calls.{call_ok, call_err, found_ok, looks_of, looks_none, looks_stay, looks_through, means_then, resolved_err, resolved_stay, resolved_through, same_live, still_live, stayed_then}

-- ---- the nodes at which a call at two places ends are touched

-- the node under the old name
abbrev HasOld : Tree → Places → ℕ → Type 0
HasOld t p n = child t p.old.directory p.old.name ≡ Some n

call_leaves : (t : Tree) (what : TwoPathOp) (requires_dir : Bool) (p : Places)
    → LeavesFor t (HasOld t p) (step t (call_at_two what requires_dir p))
unfolding link_step
call_leaves t HardLink requires_dir p =
    added_near t p.new.directory p.new.name (child t p.old.directory p.old.name) (λ n is. is)
call_leaves t Rename requires_dir p =
    renamed_near t p.old.directory p.old.name p.new.directory p.new.name (λ n is. is)

added_next : (t : Tree) (d : ℕ) (name : List ℕ) (c : Option ℕ) → next_of (added_step t d name c) ≡ next_of t
added_next t d name None = refl
added_next t d name (Some n) =
    let parent : Node = with_name (node_at t d) name n in
    let changed : Node = record (node_at t n) { content = one_name_more (node_at t n).content } in
    length-set (slice_set t.nodes d parent) n changed ∙ length-set t.nodes d parent

moved_next : (t : Tree) (p : Places) (c : Option ℕ)
    → next_of (moved_step t p.old.directory p.old.name p.new.directory p.new.name c) ≡ next_of t
moved_next t p None = refl
moved_next t p (Some n) =
    let held : Option ℕ = child t p.new.directory p.new.name in
    let lost : Tree = dropped_step t p.new.directory p.new.name name_lost held in
    next_of-moved lost p.old.directory p.old.name p.new.directory p.new.name n
    ∙ next_of-dropped_step t p.new.directory p.new.name name_lost held

-- no node is made
makes_none : (t : Tree) (what : TwoPathOp) (requires_dir : Bool) (p : Places)
    → next_of (step t (call_at_two what requires_dir p)) ≡ next_of t
unfolding link_step rename_step
makes_none t HardLink requires_dir p = added_next t p.new.directory p.new.name (child t p.old.directory p.old.name)
makes_none t Rename requires_dir p = either (hold_one held (child t p.new.directory p.new.name))
  where
    held : Option ℕ
    held = child t p.old.directory p.old.name

    moved : Tree
    moved = moved_step t p.old.directory p.old.name p.new.directory p.new.name held

    either : (one : Bool) → next_of (cond one t moved) ≡ next_of t
    either true = refl
    either false = moved_next t p held

-- a name held its node before, or the old name did
holds_after : (t : Tree) (what : TwoPathOp) (requires_dir : Bool) (p : Places) (q : Place) (n : ℕ)
    → child (step t (call_at_two what requires_dir p)) q.directory q.name ≡ Some n
    → (child t q.directory q.name ≡ Some n) ⊎ HasOld t p n
holds_after t what requires_dir p q n is =
    let leaves = call_leaves t what requires_dir p in
    let after : Tree = step t (call_at_two what requires_dir p) in
    elim (child_after t after q.directory q.name (λ m has. leaves.names q.directory m q.name has) n is) [
      | inl was ↦ inl was
      | inr (inl made) ↦ absurd (omega (arith, made.fresh, made.there, makes_none t what requires_dir p))
      | inr (inr old) ↦ inr old
    ]

found_at : (t : Tree) (what : TwoPathOp) (requires_dir : Bool) (p : Places)
    → found_by t (call_at_two what requires_dir p)
    ≡ found_under t p.old.directory p.old.name ++ found_under t p.new.directory p.new.name
found_at t HardLink requires_dir p = refl
found_at t Rename requires_dir p = refl

-- the directories, and what both names hold before the call and after it
ends_known : (t : Tree) (what : TwoPathOp) (requires_dir : Bool) (p : Places)
    → All (Contains (found_by t (call_at_two what requires_dir p) ++ made_by t (call_at_two what requires_dir p)))
    (ends_at_two t (step t (call_at_two what requires_dir p)) (Ok p))
ends_known t what requires_dir p =
    let after : Tree = step t (call_at_two what requires_dir p) in
    All-append Known (ends_in t after (Ok p.old)) (ends_in t after (Ok p.new)) (at p.old old) (at p.new new)
  where
    Known : ℕ → Type 0
    Known = Contains (found_by t (call_at_two what requires_dir p) ++ made_by t (call_at_two what requires_dir p))

    found : (n : ℕ)
        → Contains (found_under t p.old.directory p.old.name ++ found_under t p.new.directory p.new.name) n → Known n
    found n has =
        Contains-append_left (found_by t (call_at_two what requires_dir p)) _ n
        (subst (λ l. Contains l n) (sym (found_at t what requires_dir p)) has)

    old : (n : ℕ) → Contains (found_under t p.old.directory p.old.name) n → Known n
    old n has = found n (Contains-append_left (found_under t p.old.directory p.old.name) _ n has)

    new : (n : ℕ) → Contains (found_under t p.new.directory p.new.name) n → Known n
    new n has =
        found n
        (Contains-append_right (found_under t p.old.directory p.old.name) (found_under t p.new.directory p.new.name) n
        has)

    at : (q : Place) → ((n : ℕ) → Contains (found_under t q.directory q.name) n → Known n)
        → All Known (ends_in t (step t (call_at_two what requires_dir p)) (Ok q))
    at q under =
        all_ends Known t (step t (call_at_two what requires_dir p)) q (under q.directory (under_here t q))
        (λ n is. under n (under_name t q n is)) (λ n is. elim (holds_after t what requires_dir p q n is) [
          | inl was ↦ under n (under_name t q n was)
          | inr was ↦ old n (under_name t p.old n was)
        ])

-- ---- the call of the host

-- it means what the host's table says, and ends at both places
pub both_done : {A : Type 0} {old new : Handles} {w v : HostModel} (what : TwoPathOp) (requires_dir : Bool) (p : Places)
    {shown : A → HostAnswer (call_at_two what requires_dir p)} (r : Result A HostError) → new ≡ old
    → RefinesCall old new w v (call_at_two what requires_dir p) shown r
    → Resolved old w v (call_meant w.tree (call_at_two what requires_dir p)
    (ends_at_two w.tree (step w.tree (call_at_two what requires_dir p)) (Ok p))) shown r
both_done {w = w} what requires_dir p {shown} (Ok a) same modelled =
    call_ok {call = call_at_two what requires_dir p} {shown = shown} _ (ends_known w.tree what requires_dir p)
    (same_live same) modelled
both_done {w = w} what requires_dir p {shown} (Err e) same modelled =
    call_err {call = call_at_two what requires_dir p} {shown = shown} e _ same modelled

-- ---- both directories are closed

both_live : (live : Handles) (first second : MaybeOwned) (q : ℕ) → contains (both_released live first second) q ≡ true
    → contains live q ≡ true
both_live live first second q is = released_live live second q (released_live (released live second) first q is)

pub both_stay : (live : Handles) {mid : Handles} {w v u : HostModel} (first second : MaybeOwned) → mid ≡ released live second
    → ModelStays (released live second) w v → ModelStays (released mid first) v u
    → ModelStays (both_released live first second) w u
both_stay live {w = w} {v = v} {u = u} first second is one other =
    let less : ModelStays (both_released live first second) w v = record {
      tree = one.tree;
      touched = one.touched;
      keeps = λ q has. one.keeps q (released_live (released live second) first q has);
    } in
    stayed_then less (subst (λ l. ModelStays (released l first) v u) is other)

-- ---- both places

-- what is found in both steps
abbrev first_then : Result Place ErrorCode → Result Place ErrorCode → Result Places ErrorCode
first_then r q = r >>= (λ p. q >>= (λ n. Ok (record { old = p; new = n })))

both_found : (r q : Result Place ErrorCode) (p : Places) → first_then r q ≡ Ok p → (r ≡ Ok p.old) × (q ≡ Ok p.new)
both_found (Ok a) (Ok b) p is =
    let made : Places = record { old = a; new = b } in
    let same : made ≡ p = (cc) in (
      ap (λ (x : Places). let r : Result Place ErrorCode = Ok x.old in r) same,
      ap (λ (x : Places). let r : Result Place ErrorCode = Ok x.new in r) same,
    )
both_found (Ok a) (Err e) p is = absurd (cc)
both_found (Err e) q p is = absurd (cc)

-- one start, as one of both
old_start : {t : Tree} (s e d : ℕ) → Contains (s ∷ []) d → Reached t (s ∷ e ∷ []) d
old_start s e d has = root d (Contains-append_left (s ∷ []) (e ∷ []) d has)

new_start : {t : Tree} (s e d : ℕ) → Contains (e ∷ []) d → Reached t (s ∷ e ∷ []) d
new_start s e d has = root d (Contains-append_right (s ∷ []) (e ∷ []) d has)

-- what was live is live with a directory
lives_on : (start : ℕ) (first mid : Handles) (d : MaybeOwned) → LiveIn start first d mid → (q : ℕ)
    → contains first q ≡ true → contains mid q ≡ true
lives_on start first mid (Borrowed h) live q is = same_live live.1 q is
lives_on start first mid (Owned h) live q is = still_live first h live.1 q is

module _ {first : Handles} {w v : HostModel} (s : ℕ) (text : List ℕ) (e : ℕ) (new_text : List ℕ) where
  from_old : OnlyLooks first w v (s ∷ []) → OnlyLooks first w v (s ∷ e ∷ [])
  from_old looks = looks_through (looks_none first w (s ∷ e ∷ [])) (old_start s e) (λ h is. is) looks

  -- the old place is refused
  pub old_refused : (x : HostError) → Resolved first w v (places_at w.tree s text) (shown_place v.held) (Err x)
      → Resolved first w v (both_at w.tree s text e new_text) (shown_places v.held) (Err x)
  old_refused x refused =
      resolved_err (both_at w.tree s text e new_text) (shown_places v.held) x refl
      (means_then (place w.tree s text) (λ p. place w.tree e new_text >>= (λ q. Ok (record { old = p; new = q }))) x
      refused.answer)
      (from_old (looks_of (Err x) (λ is. refl) refused))

-- The old place is found, and the new one is looked for from a start that was live before.
module _ {first : Handles} {w v : HostModel} (s : ℕ) (text : List ℕ) (p : Parent)
    (placed : Resolved first w v (places_at w.tree s text) (shown_place v.held) (Ok p)) where
  so_far : OnlyLooks first w v (s ∷ [])
  so_far = looks_of (Ok p) (λ is. refl) placed

  module _ (new : ℕ) (new_text : List ℕ) (is_live : contains first new ≡ true) where
    abbrev e : ℕ
    e = (w.held new).node

    abbrev new_place : Result Place ErrorCode
    new_place = place w.tree e new_text

    module _ {mid : Handles} {u : HostModel} {r : Result Parent HostError}
        (second : Resolved mid v u (places_at v.tree (v.held new).node new_text) (shown_place u.held) r) where
      -- it is looked for in the same tree, and from the same node
      same_second : Resolved mid v u (places_at w.tree e new_text) (shown_place u.held) r
      same_second =
          subst (λ t. Resolved mid v u (places_at t e new_text) (shown_place u.held) r) so_far.tree
          (subst (λ h. Resolved mid v u (places_at v.tree h.node new_text) (shown_place u.held) r)
          (so_far.keeps new is_live) second)

      both_looks : (start : ℕ) → LiveIn start first p.directory mid → OnlyLooks first w u (s ∷ e ∷ [])
      both_looks start live =
          looks_through (from_old s text e new_text so_far) (new_start s e) (lives_on start first mid p.directory live)
          (looks_of r (λ is. sym so_far.tree) same_second)

    -- it is refused, and the old one's directory is closed
    pub new_refused : {mid : Handles} {u z : HostModel} (start : ℕ) → LiveIn start first p.directory mid → (x : HostError)
        → Resolved mid v u (places_at v.tree (v.held new).node new_text) (shown_place u.held) (Err x) → ModelStays first u z
        → Resolved first w z (both_at w.tree s text e new_text) (shown_places z.held) (Err x)
    new_refused {z = z} start live x refused closed =
        let means : MeansErr (first_then (Ok (shown_place v.held p)) new_place) x =
        means_then new_place (λ q. Ok (record { old = shown_place v.held p; new = q })) x (same_second refused).answer in
        resolved_err (both_at w.tree s text e new_text) (shown_places z.held) x refl
        (subst (λ r. MeansErr (first_then r new_place) x) (sym placed.answer) means)
        (looks_stay (both_looks refused start live) closed)

    -- both are found
    pub both_placed : {mid : Handles} {u : HostModel} (start : ℕ) → LiveIn start first p.directory mid → (q : Parent)
        → contains mid (directory_of p.directory) ≡ true
        → Resolved mid v u (places_at v.tree (v.held new).node new_text) (shown_place u.held) (Ok q)
        → Resolved first w u (both_at w.tree s text e new_text) (shown_places u.held) (Ok (record { old = p; new = q }))
    both_placed {u = u} start live q held found =
        found_ok (shown_places u.held) (record { old = p; new = q })
        (ap (λ r. first_then r new_place) placed.answer
        ∙ ap (first_then (Ok (shown_place v.held p))) (same_second found).answer
        ∙ ap (λ (h : OpenHandle). first_then (Ok (record { directory = h.node; name = name_bytes p.name }))
        (Ok (shown_place u.held q))) (sym (found.keeps (directory_of p.directory) held)))
        (both_looks found start live)

-- ---- the whole

-- what is done at both places, if there are both
abbrev done_at_both : Tree → List ℕ → Result Places ErrorCode → TwoPathOp → Bool → Meant (Unit {0})
done_at_both t starts p what requires_dir = record {
  starts = starts;
  answer = p >>= answer_at_two t what requires_dir;
  stepped = step_at_two t what requires_dir p;
  ends = ends_at_two t (step_at_two t what requires_dir p) p;
}

module _ {first : Handles} {w v : HostModel} (s : ℕ) (text : List ℕ) (e : ℕ) (new_text : List ℕ) (p : TwoParents)
    (placed : Resolved first w v (both_at w.tree s text e new_text) (shown_places v.held) (Ok p)) where
  abbrev places : Places
  places = shown_places v.held p

  abbrev directories : List ℕ
  directories = places.old.directory ∷ places.new.directory ∷ []

  -- each directory is reached from its start
  near : (d : ℕ) → Contains directories d → Reached w.tree (s ∷ e ∷ []) d
  near d has =
      let found = both_found (place w.tree s text) (place w.tree e new_text) places placed.answer in
      let old : From w.tree s places.old.directory =
      subst (GivesIn (From w.tree s) (λ (at : Place). at.directory)) found.0 (paths_stay_in_reach w.tree s text).places in
      let new : From w.tree e places.new.directory =
      subst (GivesIn (From w.tree e) (λ (at : Place). at.directory)) found.1
      (paths_stay_in_reach w.tree e new_text).places in
      elim (Contains-append_cases (places.old.directory ∷ []) (places.new.directory ∷ []) d has) [
        | inl is ↦ reached_through (old_start s e) d (subst (From w.tree s) (sym (same_node is)) old)
        | inr is ↦ reached_through (new_start s e) d (subst (From w.tree e) (sym (same_node is)) new)
      ]

  -- the places were found, the call made there, and both directories closed
  pub done_at_two : {A : Type 0} {mid : Handles} {u z : HostModel} {r : Result A HostError} {shown : A → Unit {0}}
      (what : TwoPathOp) (requires_dir : Bool)
      → both_released mid p.old.directory p.new.directory ≡ first
      → Resolved mid v u (done_at_both v.tree directories (Ok places) what requires_dir) shown r
      → ModelStays (both_released mid p.old.directory p.new.directory) u z
      → Resolved first w z (done_at_both w.tree (s ∷ e ∷ []) (places_in w.tree s text e new_text) what requires_dir)
      shown r
  done_at_two {mid = mid} {u = u} {z = z} {r = r} {shown = shown} what requires_dir closes done closed =
      let looks = looks_of (Ok p) (λ is. refl) placed in
      let at : Resolved first w u (done_at_both v.tree (s ∷ e ∷ []) (Ok places) what requires_dir) shown r =
      resolved_through looks near
      (λ q is. both_live mid p.old.directory p.new.directory q (subst (λ l. contains l q ≡ true) (sym closes) is)) refl
      done in
      let there : Resolved first w u (done_at_both w.tree (s ∷ e ∷ []) (Ok places) what requires_dir) shown r =
      subst (λ t. Resolved first w u (done_at_both t (s ∷ e ∷ []) (Ok places) what requires_dir) shown r) looks.tree at in
      resolved_stay
      (subst (λ x. Resolved first w u (done_at_both w.tree (s ∷ e ∷ []) x what requires_dir) shown r)
      (sym placed.answer) there)
      (subst (λ l. ModelStays l u z) closes closed)

-- ---- where the lookups begin

-- the old place is refused
pub traced_old : {old new : ℕ} {a b : List Lookup} → HasProvenance (Only old) Nothing Nothing a b
    → HasProvenance (OneOf old new) Nothing Nothing a b
traced_old {old} {new} traced = traced_given (OneOf old new) (λ h is. inl is) traced

module _ {old new : ℕ} {a b c : List Lookup} where
  -- the new place is refused
  pub traced_new : {Made : ℕ → Type 0} → HasProvenance (Only old) Nothing Made a b → HasProvenance (Only new) Nothing Nothing b c
      → HasProvenance (OneOf old new) Nothing Nothing a c
  traced_new first second =
      traced_last (λ h is. inr is)
      (traced_kept (OneOf old new) (OneOf old new) (λ h is. inl is) (traced_given (OneOf old new) (λ h is. inl is) first))
      second

  -- both are found
  pub traced_both : (live mid last : Handles) (d e : MaybeOwned) → LiveIn old live d mid → LiveIn new mid e last
      → HasProvenance (Only old) Nothing (GotIn d) a b → HasProvenance (Only new) Nothing (GotIn e) b c
      → HasProvenance (OneOf old new) (OneOf old new) (OneOf (directory_of d) (directory_of e)) a c
  traced_both live mid last d e live_old live_new first second =
      traced_then (λ h is. is) (λ h is. inl (inr is))
      (traced_kept (OneOf old new) Mid (λ h has. has) (traced_given (OneOf old new) (λ h is. inl is) first))
      (traced_kept Mid (OneOf (directory_of d) (directory_of e)) each second)
    where
      Mid : ℕ → Type 0
      Mid h = OneOf old new h ⊎ GotIn d h

      each : (h : ℕ) → OneOf (directory_of d) (directory_of e) h → Mid h ⊎ GotIn e h
      each h (inl is) = elim (begins_at old live mid d live_old h is) [
        | inl start ↦ inl (inl (inl start))
        | inr got ↦ inl (inr got)
      ]
      each h (inr is) = elim (begins_at new mid last e live_new h is) [
        | inl start ↦ inl (inl (inr start))
        | inr got ↦ inr got
      ]

-- the call is made at both places, whose directories are closed then
pub traced_at_two : {starts found : ℕ → Type 0} {a b c d : List Lookup} → HasProvenance starts starts found a b
    → HasProvenance found Nothing Nothing b c → d ≡ c → HasProvenance starts Nothing Nothing a d
traced_at_two first second closed = traced_same _ closed (traced_last (λ h has. has) first second)

-- ---- how many lookups

-- a call at two places looks twice, and reads no link; the closes after it look nothing up
pub two_reads : {A : Type 0} {before now last : List Lookup} (kind : LookKind) (old new : ℕ) (r : Result A HostError)
    → links_read (both_looked kind old new) ≡ 0 → Logged before (both_looked kind old new) r now → last ≡ now
    → FewReads 2 0 before last
two_reads {before = before} kind old new r none logged closed =
    subst (λ now. FewReads 2 0 before now) (sym closed) (rw none at (few_logged (both_looked kind old new) r logged))
