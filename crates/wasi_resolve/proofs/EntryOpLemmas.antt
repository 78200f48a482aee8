-- What is done at a place: from the open of its directory over the host's one call to the directory's close.
use Rattle.std.proofs.Common.{ℕ, ◌≡◌, ◌⊎◌, inl, inr, true, false, cond, Bool, List, [], ◌∷◌, ◌++◌, Option, Some, None, Result, Ok, Err, refl, sym, ap, subst, ◌∙◌, arith, length-set}
use Rattle.std.specs.Prelude.{All, Contains, option_to_list}
use Rattle.std.specs.FinSet.{contains, insert, remove}
use Rattle.std.proofs.lemmas.List.Elements.{All-nil, All-cons, All-append, Contains-push, Contains-append_left, Contains-append_right}
use Rattle.wasi_paths.specs.Parts.{has_root}
use Rattle.wasi_paths.specs.Text.{is_dot_text}
use Rattle.wasi_host.specs.Tree.{Tree, child, next_of, node_at}
use Rattle.wasi_host.specs.Agree.{IsMade}
use Rattle.wasi_host.specs.HostCall.{ReadLinkAt, Close}
use Rattle.wasi_host.specs.declared.system_time.SystemTime.{SystemTime}
use Rattle.wasi_host.specs.Answer.{HostAnswer, link_answer}
use Rattle.wasi_host.specs.Step.{step, found_by, found_under, made_by, new_directory, new_link, one_name_less, made_gone, unlink_step, remove_step, times_step, times_set_if, with_times}
use Rattle.wasi_host.specs.Steps.{◌>>=◌}
use Rattle.wasi_host.specs.HostLaws.{HostModel, Handles, RefinesCall, answered}
use Rattle.wasi_host.specs.Provenance.{HasProvenance, Only, Nothing}
use Rattle.wasi_host.specs.declared.lookup.Lookup.{Lookup}
use Rattle.wasi_host.specs.declared.errors.ErrorCode.TheVariants.{NotPermitted}
use Rattle.wasi_host.specs.declared.errors.HostError.{HostError}
use Rattle.wasi_host.specs.declared.errors.HostError.TheVariants.{Code}
use Rattle.wasi_host.proofs.Chain.{remove-insert}
use Rattle.wasi_host.proofs.Leaving.{Leaves, named_in, same_leaves, node_made_leaves, dropped_leaves, times_if_leaves, made_next, fewer_names, gone_names, next_of-dropped_step}
use Rattle.wasi_host.proofs.Tracing.{traced_same, traced_kept, traced_last}
use Rattle.wasi_resolve.specs.Laws.{From, GivesIn}
use Rattle.wasi_resolve.specs.Paths.{Place, place}
use Rattle.wasi_resolve.specs.Resolved.{Resolved, call_meant}
use Rattle.wasi_resolve.specs.Parents.{directory_of, places_at, released, shown_place, GotIn, LiveIn}
use Rattle.wasi_resolve.specs.EntryOps.{EntryOp, CreateDir, RemoveFile, RemoveDir, Symlink, ReadLink, SetTimes, EntryAnswer, call_at, unrooted, answer_in, ends_in, done_in}
use Rattle.wasi_resolve.specs.WalkSteps.{ModelStays}
use Rattle.wasi_resolve.specs.declared.parent.MaybeOwned.{MaybeOwned}
use Rattle.wasi_resolve.specs.declared.parent.MaybeOwned.TheVariants.{Borrowed, Owned}
use Rattle.wasi_resolve.specs.declared.parent.Parent.{Parent}
use Rattle.wasi_resolve.proofs.LawProofs.{paths_stay_in_reach}
use Rattle.wasi_resolve.proofs.Calls.{call_ok, call_err, close_stays, err_means, looks_of, means_then, resolved_err, resolved_stay, resolved_then, same_live}
use Rattle.wasi_resolve.proofs.Stacks.{was_live}

-- ---- the nodes at which a call at a place ends are touched

-- what is said of the names of a directory is so of `.` too, which holds its node before and after
pub child_after : (t t' : Tree) {P : ℕ → Type 0} (d : ℕ) (name : List ℕ)
    → ((n : ℕ) → named_in (node_at t' d) name ≡ Some n → (named_in (node_at t d) name ≡ Some n) ⊎ P n)
    → (n : ℕ) → child t' d name ≡ Some n → (child t d name ≡ Some n) ⊎ P n
unfolding child
child_after t t' {P} d name names n is = by (is_dot_text name) is
  where
    by : (dot : Bool) → cond dot (Some d) (named_in (node_at t' d) name) ≡ Some n
        → (cond dot (Some d) (named_in (node_at t d) name) ≡ Some n) ⊎ P n
    by true same = inl same
    by false has = names n has

-- a name held its node before, or holds one that was made
child_leaves : {t t' : Tree} (d n : ℕ) (name : List ℕ) → Leaves t t' → child t' d name ≡ Some n
    → (child t d name ≡ Some n) ⊎ IsMade t t' n
child_leaves {t} {t'} d n name leaves is = child_after t t' d name (λ m has. leaves.names d m name has) n is

times_next : (t : Tree) (atime mtime : Option SystemTime) (c : Option ℕ)
    → next_of (times_set_if t atime mtime c) ≡ next_of t
times_next t atime mtime None = refl
times_next t atime mtime (Some n) = length-set t.nodes n (with_times (node_at t n) atime mtime)

call_leaves : (t : Tree) (c : EntryOp) (p : Place) → Leaves t (step t (call_at c p))
unfolding unlink_step remove_step times_step
call_leaves t CreateDir p = node_made_leaves t p.directory p.name new_directory refl
call_leaves t RemoveFile p = dropped_leaves t p.directory p.name one_name_less (child t p.directory p.name) fewer_names
call_leaves t RemoveDir p = dropped_leaves t p.directory p.name made_gone (child t p.directory p.name) gone_names
call_leaves t (Symlink text) p = node_made_leaves t p.directory p.name (new_link text) refl
call_leaves t ReadLink p = same_leaves t
call_leaves t (SetTimes atime mtime) p = times_if_leaves t atime mtime (child t p.directory p.name)

next_known : (t : Tree) (n : ℕ) → n ≡ next_of t → Contains (next_of t ∷ []) n
next_known t n is = subst (Contains (next_of t ∷ [])) (sym is) (Contains-push [] (next_of t))

-- what a call made is known of it
made_known : (t : Tree) (c : EntryOp) (p : Place) (n : ℕ) → IsMade t (step t (call_at c p)) n
    → Contains (made_by t (call_at c p)) n
unfolding unlink_step remove_step times_step
made_known t CreateDir p n made =
    next_known t n (omega (arith, made.fresh, made.there, made_next t p.directory p.name new_directory))
made_known t RemoveFile p n made =
    let same = next_of-dropped_step t p.directory p.name one_name_less (child t p.directory p.name) in
    absurd (omega (arith, made.fresh, made.there, same))
made_known t RemoveDir p n made =
    let same = next_of-dropped_step t p.directory p.name made_gone (child t p.directory p.name) in
    absurd (omega (arith, made.fresh, made.there, same))
made_known t (Symlink text) p n made =
    next_known t n (omega (arith, made.fresh, made.there, made_next t p.directory p.name (new_link text)))
made_known t ReadLink p n made = absurd (omega (arith, made.fresh, made.there))
made_known t (SetTimes atime mtime) p n made =
    let same = times_next t atime mtime (child t p.directory p.name) in
    absurd (omega (arith, made.fresh, made.there, same))

found_at : (t : Tree) (c : EntryOp) (p : Place)
    → found_by t (call_at c p) ≡ found_under t p.directory p.name
found_at t CreateDir p = refl
found_at t RemoveFile p = refl
found_at t RemoveDir p = refl
found_at t (Symlink text) p = refl
found_at t ReadLink p = refl
found_at t (SetTimes atime mtime) p = refl

-- of what a name holds
all_held : (P : ℕ → Type 0) (c : Option ℕ) → ((n : ℕ) → c ≡ Some n → P n) → All P (option_to_list c)
all_held P None each = All-nil P
all_held P (Some n) each = All-cons P n [] (each n refl) (All-nil P)

-- of a place's directory, and of what its name holds before a call and after it
pub all_ends : (P : ℕ → Type 0) (t t' : Tree) (p : Place) → P p.directory
    → ((n : ℕ) → child t p.directory p.name ≡ Some n → P n)
    → ((n : ℕ) → child t' p.directory p.name ≡ Some n → P n) → All P (ends_in t t' (Ok p))
all_ends P t t' p here before after =
    All-cons P p.directory _ here
    (All-append P _ _ (all_held P (child t p.directory p.name) before) (all_held P (child t' p.directory p.name) after))

-- the directory of a place, and the node under its name, are found under it
pub under_here : (t : Tree) (p : Place) → Contains (found_under t p.directory p.name) p.directory
under_here t p = Contains-append_left (p.directory ∷ []) _ p.directory (Contains-push [] p.directory)

pub under_name : (t : Tree) (p : Place) (n : ℕ) → child t p.directory p.name ≡ Some n
    → Contains (found_under t p.directory p.name) n
under_name t p n is =
    Contains-append_right (p.directory ∷ []) (option_to_list (child t p.directory p.name)) n
    (subst (λ o. Contains (option_to_list o) n) (sym is) (Contains-push [] n))

ends_known : (t : Tree) (c : EntryOp) (p : Place)
    → All (Contains (found_by t (call_at c p) ++ made_by t (call_at c p))) (ends_in t (step t (call_at c p)) (Ok p))
ends_known t c p = all_ends Known t (step t (call_at c p)) p (found (under_here t p)) before after
  where
    Known : ℕ → Type 0
    Known = Contains (found_by t (call_at c p) ++ made_by t (call_at c p))

    found : {n : ℕ} → Contains (found_under t p.directory p.name) n → Known n
    found {n} has =
        Contains-append_left (found_by t (call_at c p)) (made_by t (call_at c p)) n
        (subst (λ l. Contains l n) (sym (found_at t c p)) has)

    before : (n : ℕ) → child t p.directory p.name ≡ Some n → Known n
    before n is = found (under_name t p n is)

    after : (n : ℕ) → child (step t (call_at c p)) p.directory p.name ≡ Some n → Known n
    after n is = elim (child_leaves p.directory n p.name (call_leaves t c p) is) [
      | inl was ↦ before n was
      | inr made ↦
          Contains-append_right (found_by t (call_at c p)) (made_by t (call_at c p)) n (made_known t c p n made)
    ]

-- ---- the call of the host

-- it means what the host's table says, and ends at the place
pub call_done : {A : Type 0} {old new : Handles} {w v : HostModel} (c : EntryOp) (p : Place)
    {shown : A → HostAnswer (call_at c p)} (r : Result A HostError) → new ≡ old
    → RefinesCall old new w v (call_at c p) shown r
    → Resolved old w v (call_meant w.tree (call_at c p) (ends_in w.tree (step w.tree (call_at c p)) (Ok p))) shown r
call_done {w = w} c p {shown} (Ok a) same modelled =
    call_ok {call = call_at c p} {shown = shown} (ends_in w.tree (step w.tree (call_at c p)) (Ok p))
    (ends_known w.tree c p) (same_live same) modelled
call_done {w = w} c p {shown} (Err e) same modelled =
    call_err {call = call_at c p} {shown = shown} e (ends_in w.tree (step w.tree (call_at c p)) (Ok p)) same modelled

-- ---- the directory is closed

pub closed_stays : {live new : Handles} {w v : HostModel} (h : ℕ) → new ≡ remove live h
    → RefinesCall live new w v Close (λ unit. unit) answered → ModelStays (remove live h) w v
closed_stays {live} h closed modelled =
    close_stays modelled (λ q is.
    let still = subst (λ l. contains l q ≡ true) (sym closed) is in (was_live live h closed q still, still))

-- one that a part opened
pub got_closed : {old mid live new : Handles} {w v : HostModel} (h : ℕ) → (contains old h ≡ false) × (mid ≡ insert old h)
    → live ≡ mid → new ≡ remove live h → RefinesCall live new w v Close (λ unit. unit) answered → ModelStays old w v
got_closed {old} {live = live} {w = w} {v = v} h got same closed modelled =
    let back : remove live h ≡ old = ap (λ l. remove l h) (same ∙ got.1) ∙ remove-insert old h got.0 in
    subst (λ l. ModelStays l w v) back (closed_stays h closed modelled)

-- what is live without it was live
pub released_live : (live : Handles) (d : MaybeOwned) (q : ℕ) → contains (released live d) q ≡ true
    → contains live q ≡ true
released_live live (Borrowed h) q is = is
released_live live (Owned h) q is = was_live live h refl q is

-- ---- the whole

module _ {A : Type 0} {first : Handles} {w v : HostModel} (s : ℕ) (text : List ℕ) (c : EntryOp)
    {shown : A → EntryAnswer c} where
  -- no place was found
  pub not_placed : (e : HostError) → Resolved first w v (places_at w.tree s text) (shown_place v.held) (Err e)
      → Resolved first w v (done_in w.tree s (place w.tree s text) c) shown (Err e)
  not_placed e refused =
      resolved_err (done_in w.tree s (place w.tree s text) c) shown e refl
      (means_then (place w.tree s text) (answer_in w.tree c) e refused.answer) (looks_of (Err e) (λ is. refl) refused)

  -- A place was found, its call made, and its directory closed. The directory is reached from the start.
  pub done_at_place : {mid : Handles} {u z : HostModel} {r : Result A HostError} (p : Parent)
      → released mid p.directory ≡ first
      → Resolved first w v (places_at w.tree s text) (shown_place v.held) (Ok p)
      → Resolved mid v u (done_in v.tree (v.held (directory_of p.directory)).node (Ok (shown_place v.held p)) c) shown r
      → ModelStays (released mid p.directory) u z
      → Resolved first w z (done_in w.tree s (place w.tree s text) c) shown r
  done_at_place {mid = mid} {u = u} {z = z} {r = r} p closes placed done closed =
      let looks = looks_of (Ok p) (λ is. refl) placed in
      let near : From w.tree s (v.held (directory_of p.directory)).node =
      subst (GivesIn (From w.tree s) (λ (at : Place). at.directory)) placed.answer
      (paths_stay_in_reach w.tree s text).places in
      let at : Resolved first w u (done_in v.tree s (Ok (shown_place v.held p)) c) shown r =
      resolved_then looks near
      (λ q is. released_live mid p.directory q (subst (λ l. contains l q ≡ true) (sym closes) is)) refl done in
      let there : Resolved first w u (done_in w.tree s (Ok (shown_place v.held p)) c) shown r =
      subst (λ t. Resolved first w u (done_in t s (Ok (shown_place v.held p)) c) shown r) looks.tree at in
      resolved_stay
      (subst (λ q. Resolved first w u (done_in w.tree s q c) shown r) (sym placed.answer) there)
      (subst (λ l. ModelStays l u z) closes closed)

-- ---- where the lookups begin

-- a place's directory is the start, or was got
pub begins_at : (start : ℕ) (first mid : Handles) (d : MaybeOwned) → LiveIn start first d mid → (h : ℕ)
    → h ≡ directory_of d → (h ≡ start) ⊎ GotIn d h
begins_at start first mid (Borrowed q) live h is = inl (is ∙ live.0)
begins_at start first mid (Owned q) live h is = inr is

-- at a place's directory, which is closed then
pub traced_at_place : {start : ℕ} {a b d d' : List Lookup} (p : Parent) (first mid : Handles)
    → LiveIn start first p.directory mid
    → HasProvenance (Only start) Nothing (GotIn p.directory) a b
    → HasProvenance (Only (directory_of p.directory)) Nothing Nothing b d → d' ≡ d
    → HasProvenance (Only start) Nothing Nothing a d'
traced_at_place {start} p first mid live opened called closed =
    traced_same _ closed
    (traced_last (begins_at start first mid p.directory live)
    (traced_kept (Only start) (λ h. (h ≡ start) ⊎ GotIn p.directory h) (λ h has. has) opened) called)

-- ---- a link's text, where it has no root

module _ {A : Type 0} {old new : Handles} {w v : HostModel} (p : Place) {text_of : A → List ℕ} (same : new ≡ old) where
  -- it is not read
  pub unread : (e : HostError) → RefinesCall old new w v (ReadLinkAt p.directory p.name) text_of (Err e)
      → Resolved old w v (done_in w.tree p.directory (Ok p) ReadLink) text_of (Err e)
  unread e modelled =
      resolved_err (done_in w.tree p.directory (Ok p) ReadLink) text_of e refl
      (means_then (link_answer w.tree p.directory p.name) unrooted e modelled.meaning)
      (looks_of (Err e) (λ is. refl) (call_done ReadLink p (Err e) same modelled))

  module _ {a : A} (modelled : RefinesCall old new w v (ReadLinkAt p.directory p.name) text_of (Ok a)) where
    by_root : (rooted : Bool) → has_root (text_of a) ≡ rooted
        → link_answer w.tree p.directory p.name >>= unrooted ≡ cond rooted (Err NotPermitted) (Ok (text_of a))
    by_root rooted is =
        ap (λ x. x >>= unrooted) modelled.meaning ∙ ap (λ b. cond b (Err NotPermitted) (Ok (text_of a))) is

    pub text_refused : has_root (text_of a) ≡ true
        → Resolved {A = A} old w v (done_in w.tree p.directory (Ok p) ReadLink) text_of (Err (Code NotPermitted))
    text_refused is =
        resolved_err (done_in w.tree p.directory (Ok p) ReadLink) text_of (Code NotPermitted) refl
        (err_means _ NotPermitted (by_root true is))
        (looks_of (Ok a) (λ is. refl) (call_done ReadLink p (Ok a) same modelled))

    pub text_given : has_root (text_of a) ≡ false
        → Resolved old w v (done_in w.tree p.directory (Ok p) ReadLink) text_of (Ok a)
    text_given is =
        let read = call_done ReadLink p (Ok a) same modelled in
        record { answer = by_root false is; tree = read.tree; touched = read.touched; keeps = read.keeps }
