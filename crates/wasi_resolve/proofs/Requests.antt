-- A request through a path is answered alike over two trees with equal nodes where it starts, and leaves them with equal
-- nodes there.
use Rattle.std.proofs.Common.{ℕ, ◌≡◌, Option, inl, inr, Bool, true, false, not, ◌&&◌, List, [], ◌∷◌, refl, ap, sym, ◌∙◌, subst, arith, Ok, Err, Result}
use Rattle.std.specs.Prelude.{Contains, if◌then◌else◌}
use Rattle.std.proofs.lemmas.List.Elements.{Contains-push, Contains-push_cases}
use Rattle.wasi_host.specs.Tree.{Tree}
use Rattle.wasi_host.specs.ValidTree.{Reached, root, held}
use Rattle.wasi_host.specs.Agree.{IsClosed, AgreeOn, OrMade}
use Rattle.wasi_host.specs.HostCall.{OpenAt, SetTimes as TimesSet}
use Rattle.wasi_host.specs.declared.open_handle.OpenHandle.{OpenHandle}
use Rattle.wasi_host.specs.declared.system_time.SystemTime.{SystemTime}
use Rattle.wasi_host.specs.Refusal.{refusal}
use Rattle.wasi_host.specs.Step.{open_step, starts_of}
use Rattle.wasi_host.specs.Answer.{reached, unless, metadata_of}
use Rattle.wasi_host.specs.Steps.{◌>>=◌}
use Rattle.wasi_host.specs.declared.errors.ErrorCode.{ErrorCode}
use Rattle.wasi_host.specs.declared.errors.ErrorCode.TheVariants.{NotDirectory}
use Rattle.wasi_host.proofs.Leaving.{LeavesNear, Contains-here, stays_near, step_leaves}
use Rattle.wasi_host.proofs.Agreeing as host
use Rattle.wasi_host.proofs.Agreeing.{one, unless_value, itself}
use Rattle.wasi_resolve.specs.Laws.{GivesIn}
use Rattle.wasi_resolve.specs.EntryOps.{EntryOp, CreateDir, RemoveFile, RemoveDir, Symlink, ReadLink, SetTimes, call_at, unrooted, answer_in, place_text, place_for, step_in}
use Rattle.wasi_resolve.specs.TwoPathOps.{TwoPathOp, HardLink, Rename, Places, text_for, asks_directory, places_in, places_for, call_at_two, answer_at_two, step_at_two}
use Rattle.wasi_resolve.specs.Paths.{Opening, Place, opening, step_of, looked, place, timed}
use Rattle.wasi_resolve.specs.PathRequest.{PathRequest, OpenPath, LookPath, AtEntry, TimesPath, AtTwo, as_asked, PathReply, Opened, opened_at, answer_at, times_through, path_reply, path_after, path_starts, path_gives}
use Rattle.wasi_resolve.proofs.WalkAgreeing.{from_one}
use Rattle.wasi_resolve.proofs.PathAgreeing as paths

first : (s : ℕ) → Contains (s ∷ []) s
first s = Contains-push [] s

-- a call at a place starts from its directory
from_directory : (what : EntryOp) (p : Place) (n : ℕ) → Contains (starts_of (call_at what p)) n
    → Contains (p.directory ∷ []) n
from_directory CreateDir p n has = has
from_directory RemoveFile p n has = has
from_directory RemoveDir p n has = has
from_directory (Symlink text) p n has = has
from_directory ReadLink p n has = has
from_directory (SetTimes atime mtime) p n has = has

-- and one at two places from theirs
from_directories : (what : TwoPathOp) (requires_dir : Bool) (p : Places) (n : ℕ)
    → Contains (starts_of (call_at_two what requires_dir p)) n → Contains (p.old.directory ∷ p.new.directory ∷ []) n
from_directories HardLink requires_dir p n has = has
from_directories Rename requires_dir p n has = has

-- what holds of two nodes
pub from_two : (Seen : ℕ → Type 0) {a b : ℕ} → Seen a → Seen b → (n : ℕ) → Contains (a ∷ b ∷ []) n → Seen n
from_two Seen {a} {b} old new n has = elim (Contains-push_cases (a ∷ []) b n has) [
  | inl is ↦ subst Seen (one is) old
  | inr is ↦ subst Seen is new
]

first_of : (a b : ℕ) → Contains (a ∷ b ∷ []) a
first_of a b = Contains-here a (b ∷ [])

second_of : (a b : ℕ) → Contains (a ∷ b ∷ []) b
second_of a b = Contains-push (a ∷ []) b

-- the directories of two places are of the set
abbrev BothIn : (ℕ → Type 0) → Result Places ErrorCode → Type 0
BothIn Seen (Ok p) = Seen p.old.directory × Seen p.new.directory
BothIn Seen (Err code) = Unit {0}

both_in : (Seen : ℕ → Type 0) (a b : Result Place ErrorCode) → GivesIn Seen (λ (p : Place). p.directory) a
    → GivesIn Seen (λ (p : Place). p.directory) b
    → BothIn Seen (a >>= (λ p. b >>= (λ q. Ok (record { old = p; new = q }))))
both_in Seen (Ok p) (Ok q) old new = (old, new)
both_in Seen (Ok p) (Err code) old new = tt
both_in Seen (Err code) b old new = tt

module _ {Seen : ℕ → Type 0} {t u : Tree} (closed : IsClosed Seen t) (agree : AgreeOn Seen t u) {old new : ℕ}
    (old_text new_text : List ℕ) (from : (n : ℕ) → Contains (old ∷ new ∷ []) n → Seen n) where
  places_seen : BothIn Seen (places_in t old old_text new new_text)
  places_seen =
      both_in Seen (place t old old_text) (place t new new_text)
      (paths.place_seen closed agree old old_text (from old (first_of old new)))
      (paths.place_seen closed agree new new_text (from new (second_of old new)))

  places_same : places_in t old old_text new new_text ≡ places_in u old old_text new new_text
  places_same =
      ap (λ q. place t old old_text >>= (λ x. q >>= (λ y. let r : Result Places ErrorCode =
      Ok (record { old = x; new = y }) in r)))
      (paths.place_same closed agree new new_text (from new (second_of old new)))
      ∙ ap (λ p. p >>= (λ x. place u new new_text >>= (λ y. let r : Result Places ErrorCode =
      Ok (record { old = x; new = y }) in r)))
      (paths.place_same closed agree old old_text (from old (first_of old new)))

-- what is reached from some nodes is a closed set
pub reached_closed : (t : Tree) (roots : List ℕ) → IsClosed (Reached t roots) t
reached_closed t roots = record { under = λ d n name above is. held d n name above is }

-- what is left near some nodes is left near those from which they are reached
pub near_from : {t t' : Tree} {roots roots' : List ℕ} → ((n : ℕ) → Contains roots n → Reached t roots' n)
    → LeavesNear t roots t' → LeavesNear t roots' t'
near_from {t} {t'} {roots} {roots'} from leaves = record {
  names = λ d n name has. elim (leaves.names d n name has) [
    | inl was ↦ inl was
    | inr (inl made) ↦ inr (inl made)
    | inr (inr near) ↦ inr (inr (host.reach_closed (reached_closed t roots') from n near))
  ];
  grows = leaves.grows;
}

-- what setting times leaves
times_leave : (t : Tree) (s : ℕ) (atime mtime : Option SystemTime) (r : Result OpenHandle ErrorCode)
    → GivesIn (Reached t (s ∷ [])) (λ (held : OpenHandle). held.node) r
    → LeavesNear t (s ∷ []) (times_through t atime mtime r)
times_leave t s atime mtime (Ok stands) near =
    near_from (from_one (Reached t (s ∷ [])) near) (step_leaves t (TimesSet stands.node atime mtime))
times_leave t s atime mtime (Err code) near = stays_near

-- and what is done at a place
place_leaves : (t : Tree) (s : ℕ) (text : List ℕ) (what : EntryOp)
    → LeavesNear t (s ∷ []) (step_in t what (place_for t s text what))
place_leaves t s text what =
    by (place_for t s text what) (paths.place_seen (reached_closed t (s ∷ [])) itself s (place_text what text)
    (root s (first s)))
  where
    by : (r : Result Place ErrorCode) → GivesIn (Reached t (s ∷ [])) (λ (p : Place). p.directory) r
        → LeavesNear t (s ∷ []) (step_in t what r)
    by (Ok p) near =
        near_from (λ n has. from_one (Reached t (s ∷ [])) near n (from_directory what p n has))
        (step_leaves t (call_at what p))
    by (Err code) near = stays_near

-- names hold the nodes that they held, or nodes that are made or reached from where the request starts
pub path_leaves : (t : Tree) (r : PathRequest) → LeavesNear t (path_starts r) (path_after t r)
path_leaves t (OpenPath s text o follow directory) =
    by (opening t s text o follow) (paths.opening_seen (reached_closed t (s ∷ [])) itself s text o follow (root s
    (first s)))
  where
    by : (r : Result Opening ErrorCode) → GivesIn (Reached t (s ∷ [])) (λ (e : Opening). e.directory) r
        → LeavesNear t (s ∷ []) (step_of t r)
    by (Ok e) near =
        near_from (from_one (Reached t (s ∷ [])) near) (step_leaves t (OpenAt e.directory e.name e.options))
    by (Err code) near = stays_near
path_leaves t (LookPath s text follow) = stays_near
path_leaves t (AtEntry s text what) = place_leaves t s text what
path_leaves t (TimesPath s text true atime mtime) =
    times_leave t s atime mtime (timed t s text)
    (paths.timed_seen (reached_closed t (s ∷ [])) itself s text (root s (first s)))
path_leaves t (TimesPath s text false atime mtime) = place_leaves t s text (SetTimes atime mtime)
path_leaves t (AtTwo old old_text new new_text what) =
    by (places_for t old old_text new new_text what)
    (places_seen (reached_closed t (old ∷ new ∷ [])) itself (text_for what old_text) (text_for what new_text)
    (λ n has. root n has))
  where
    by : (r : Result Places ErrorCode) → BothIn (Reached t (old ∷ new ∷ [])) r
        → LeavesNear t (old ∷ new ∷ []) (step_at_two t what (asks_directory old_text new_text) r)
    by (Ok p) near =
        near_from (λ n has. from_two (Reached t (old ∷ new ∷ [])) near.0 near.1 n (from_directories what (asks_directory old_text new_text) p n has))
        (step_leaves t (call_at_two what (asks_directory old_text new_text) p))
    by (Err code) near = stays_near

module _ {Seen : ℕ → Type 0} {t u : Tree} (closed : IsClosed Seen t) (agree : AgreeOn Seen t u) where
  answer_same : (e : Opening) → Seen e.directory → answer_at t e ≡ answer_at u e
  answer_same e seen =
      let call = OpenAt e.directory e.name e.options in
      let at = host.reached_same closed agree e.directory e.name seen in
      let node = (host.opened_agree closed agree e.directory e.name e.options seen).nodes (reached t e.directory e.name)
      (host.reached_seen closed e.directory e.name e.options seen) in
      let same : opened_at t e.directory e.name e.options ≡ opened_at u e.directory e.name e.options =
      rw (sym at, node) refl in
      ap (λ c. unless c (opened_at t e.directory e.name e.options)) (host.refused_same closed agree call
      (from_one Seen seen))
      ∙ ap (unless (refusal u call)) same

  -- the host answers alike at a place
  place_answer_same : (what : EntryOp) (p : Place) → Seen p.directory → answer_in t what p ≡ answer_in u what p
  place_answer_same CreateDir p seen = host.answer_same closed agree (call_at CreateDir p) (from_one Seen seen)
  place_answer_same RemoveFile p seen = host.answer_same closed agree (call_at RemoveFile p) (from_one Seen seen)
  place_answer_same RemoveDir p seen = host.answer_same closed agree (call_at RemoveDir p) (from_one Seen seen)
  place_answer_same (Symlink text) p seen = host.answer_same closed agree (call_at (Symlink text) p) (from_one Seen seen)
  place_answer_same ReadLink p seen =
      ap (λ r. r >>= unrooted) (host.answer_same closed agree (call_at ReadLink p) (from_one Seen seen))
  place_answer_same (SetTimes atime mtime) p seen =
      host.answer_same closed agree (call_at (SetTimes atime mtime) p) (from_one Seen seen)

  place_reply_same : (s : ℕ) (text : List ℕ) (what : EntryOp) → Seen s
      → place_for t s text what >>= answer_in t what ≡ place_for u s text what >>= answer_in u what
  place_reply_same s text what seen =
      paths.then_same closed agree (λ (p : Place). p.directory) (place_for t s text what) (answer_in t what)
      (answer_in u what)
      (paths.place_seen closed agree s (place_text what text) seen) (place_answer_same what)
      ∙ ap (λ r. r >>= answer_in u what) (paths.place_same closed agree s (place_text what text) seen)

  -- the step at a place is the same
  place_after_agree : (s : ℕ) (text : List ℕ) (what : EntryOp) → Seen s
      → AgreeOn (OrMade Seen t (step_in t what (place_for t s text what)))
      (step_in t what (place_for t s text what)) (step_in u what (place_for u s text what))
  place_after_agree s text what seen =
      rw (← paths.place_same closed agree s (place_text what text) seen)
      (by (place_for t s text what) (paths.place_seen closed agree s (place_text what text) seen))
    where
      by : (r : Result Place ErrorCode) → GivesIn Seen (λ (p : Place). p.directory) r
          → AgreeOn (OrMade Seen t (step_in t what r)) (step_in t what r) (step_in u what r)
      by (Ok p) near =
          host.step_agree closed agree (call_at what p) (λ n has. from_one Seen near n (from_directory what p n has))
      by (Err code) near = host.same_agree closed agree

  -- and at two places
  both_answer_same : (what : TwoPathOp) (requires_dir : Bool) (p : Places) → Seen p.old.directory
      → Seen p.new.directory → answer_at_two t what requires_dir p ≡ answer_at_two u what requires_dir p
  both_answer_same what requires_dir p old new =
      ap (λ c. unless c tt) (host.refused_same closed agree (call_at_two what requires_dir p)
      (λ n has. from_two Seen old new n (from_directories what requires_dir p n has)))

  -- equal answers
  pub path_reply_same : (r : PathRequest) → ((n : ℕ) → Contains (path_starts r) n → Seen n)
      → path_reply t r ≡ path_reply u r
  unfolding metadata_of
  path_reply_same (OpenPath s text o follow directory) from =
      ap (λ r. r >>= as_asked directory) (
      paths.then_same closed agree (λ (e : Opening). e.directory) (opening t s text o follow) (answer_at t)
      (answer_at u)
      (paths.opening_seen closed agree s text o follow (from s (first s))) answer_same
      ∙ ap (λ r. r >>= answer_at u) (paths.opening_same closed agree s text o follow (from s (first s))))
  path_reply_same (LookPath s text follow) from =
      paths.then_same closed agree (λ n. n) (looked t s text follow) (λ n. Ok (metadata_of t n)) (λ n. Ok
      (metadata_of u n))
      (paths.looked_seen closed agree s text follow (from s (first s))) (λ n seen. rw (agree.nodes n seen) refl)
      ∙ ap (λ r. r >>= (λ n. Ok (metadata_of u n))) (paths.looked_same closed agree s text follow (from s (first s)))
  path_reply_same (AtEntry s text what) from = place_reply_same s text what (from s (first s))
  path_reply_same (TimesPath s text true atime mtime) from =
      ap (λ r. r >>= (λ held. let done : Result (Unit {0}) ErrorCode = Ok tt in done))
      (paths.timed_same closed agree s text (from s (first s)))
  path_reply_same (TimesPath s text false atime mtime) from =
      place_reply_same s text (SetTimes atime mtime) (from s (first s))
  path_reply_same (AtTwo old old_text new new_text what) from =
      by (places_for t old old_text new new_text what)
      (places_seen closed agree (text_for what old_text) (text_for what new_text) from)
      ∙ ap (λ r. r >>= answer_at_two u what (asks_directory old_text new_text))
      (places_same closed agree (text_for what old_text) (text_for what new_text) from)
    where
      by : (r : Result Places ErrorCode) → BothIn Seen r
          → r >>= answer_at_two t what (asks_directory old_text new_text)
          ≡ r >>= answer_at_two u what (asks_directory old_text new_text)
      by (Ok p) seen = both_answer_same what (asks_directory old_text new_text) p seen.0 seen.1
      by (Err code) seen = refl

  -- the trees after a request are again equal on the set and on what was made
  pub path_after_agree : (r : PathRequest) → ((n : ℕ) → Contains (path_starts r) n → Seen n)
      → AgreeOn (OrMade Seen t (path_after t r)) (path_after t r) (path_after u r)
  path_after_agree (OpenPath s text o follow directory) from =
      rw (← paths.opening_same closed agree s text o follow (from s (first s)))
      (by (opening t s text o follow) (paths.opening_seen closed agree s text o follow (from s (first s))))
    where
      by : (r : Result Opening ErrorCode) → GivesIn Seen (λ (e : Opening). e.directory) r
          → AgreeOn (OrMade Seen t (step_of t r)) (step_of t r) (step_of u r)
      by (Ok e) seen = host.opened_agree closed agree e.directory e.name e.options seen
      by (Err code) seen = host.same_agree closed agree
  path_after_agree (LookPath s text follow) from = host.same_agree closed agree
  path_after_agree (AtEntry s text what) from = place_after_agree s text what (from s (first s))
  path_after_agree (TimesPath s text true atime mtime) from =
      rw (← paths.timed_same closed agree s text (from s (first s)))
      (by (timed t s text) (paths.timed_seen closed agree s text (from s (first s))))
    where
      by : (r : Result OpenHandle ErrorCode) → GivesIn Seen (λ (held : OpenHandle). held.node) r
          → AgreeOn (OrMade Seen t (times_through t atime mtime r)) (times_through t atime mtime r)
          (times_through u atime mtime r)
      by (Ok stands) seen = host.step_agree closed agree (TimesSet stands.node atime mtime) (from_one Seen seen)
      by (Err code) seen = host.same_agree closed agree
  path_after_agree (TimesPath s text false atime mtime) from =
      place_after_agree s text (SetTimes atime mtime) (from s (first s))
  path_after_agree (AtTwo old old_text new new_text what) from =
      rw (← places_same closed agree (text_for what old_text) (text_for what new_text) from)
      (by (places_for t old old_text new new_text what)
      (places_seen closed agree (text_for what old_text) (text_for what new_text) from))
    where
      asks : Bool
      asks = asks_directory old_text new_text

      by : (r : Result Places ErrorCode) → BothIn Seen r
          → AgreeOn (OrMade Seen t (step_at_two t what asks r)) (step_at_two t what asks r) (step_at_two u what asks r)
      by (Ok p) seen =
          host.step_agree closed agree (call_at_two what asks p)
          (λ n has. from_two Seen seen.0 seen.1 n (from_directories what asks p n has))
      by (Err code) seen = host.same_agree closed agree

-- what is answered was opened
pub as_opened : (directory : Bool) (m : Result Opened ErrorCode) {reply : Opened} → (m >>= as_asked directory) ≡ Ok reply
    → m ≡ Ok reply
as_opened directory (Ok found) {reply} is = ap Ok (by (directory && not found.is_dir) is)
  where
    by : (refused : Bool) → (let r : Result Opened ErrorCode = if refused then Err NotDirectory else Ok found in r) ≡ Ok reply
        → found ≡ reply
    by true none = absurd (cc)
    by false same = cc
as_opened directory (Err code) is = absurd (cc)

module _ {Seen : ℕ → Type 0} {t : Tree} (closed : IsClosed Seen t) where
  -- what an answer gives is of the set, or made
  pub path_given_seen : (r : PathRequest) (reply : PathReply r) → ((n : ℕ) → Contains (path_starts r) n → Seen n)
      → path_reply t r ≡ Ok reply → (n : ℕ) → Contains (path_gives r reply) n → OrMade Seen t (path_after t r) n
  path_given_seen (OpenPath s text o follow directory) reply from is n has =
      by (opening t s text o follow) (paths.opening_seen closed itself s text o follow (from s (first s))) is
    where
      by : (r : Result Opening ErrorCode) → GivesIn Seen (λ (e : Opening). e.directory) r
          → (r >>= answer_at t >>= as_asked directory) ≡ Ok reply
          → OrMade Seen t (step_of t r) n
      by (Ok e) seen answered =
          let value = unless_value (refusal t (OpenAt e.directory e.name e.options)) (as_opened directory (answer_at t e) answered) in
          let node : reached t e.directory e.name ≡ n = ap (λ (x : Opened). x.held.node) value ∙ one has in
          subst (OrMade Seen t (open_step t e.directory e.name e.options)) node
          (host.reached_seen closed e.directory e.name e.options seen)
      by (Err code) seen answered = absurd (cc)
  path_given_seen (LookPath s text follow) reply from is n has = absurd (omega (arith, has.1))
  path_given_seen (AtEntry s text what) reply from is n has = absurd (omega (arith, has.1))
  path_given_seen (TimesPath s text follow atime mtime) reply from is n has = absurd (omega (arith, has.1))
  path_given_seen (AtTwo old old_text new new_text what) reply from is n has = absurd (omega (arith, has.1))
