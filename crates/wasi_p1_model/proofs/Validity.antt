-- A turn from a valid state leads to one.
use Rattle.std.proofs.Common.{ℕ, ◌≡◌, inl, inr, true, false, cond, Bool, List, [], ◌∷◌, ◌++◌, map, refl, ap, sym, subst, Option, Some, None, Result, Ok, Err}
use Rattle.std.specs.Prelude.{All, codes}
use Rattle.std.specs.FinMap as maps
use Rattle.std.proofs.lemmas.List.Elements.{All-nil, All-cons, All-head, All-tail}
use Rattle.std.specs.Str.{IsUtf8}
use Rattle.wasi_host.specs.Step.{times_set}
use Rattle.wasi_host.specs.declared.system_time.SystemTime.{SystemTime}
use Rattle.wasi_guest.specs.declared.answer.Value.{Value}
use Rattle.wasi_guest.specs.declared.call.Call.{Call}
use Rattle.wasi_guest.specs.declared.quota.QuotaUsed.{QuotaUsed}
use Rattle.wasi_p1_types.specs.Front.{FueledCall}
use Rattle.wasi_host.specs.HostLaws.{HostModel}
use Rattle.wasi_host.specs.Tree.{Tree, Node, Content, names_of, File, Directory, Link, node_at, next_of, bytes_of}
use Rattle.wasi_host.specs.ValidTree.{IsValidTree, IsValidContent, IsEntry, are_bytes}
use Rattle.wasi_host.proofs.Changes.{node_at-past}
use Rattle.wasi_host.proofs.EntryLemmas.{All-no_names}
use Rattle.wasi_host.proofs.ValidSteps.{valid-step}
use Rattle.wasi_p1_model.specs.CallTransition.{Turns, in_model}
use Rattle.wasi_p1_types.specs.Guest.{Guest, State}
use Rattle.wasi_host.specs.HostCall.{Append, OpenAt, Pread}
use Rattle.wasi_host.specs.HostCall as calls
use Rattle.wasi_host.specs.declared.open_handle.OpenHandle.{OpenHandle}
use Rattle.wasi_host.specs.Steps.{◌>>=◌}
use Rattle.wasi_host.specs.declared.errors.ErrorCode.{ErrorCode}
use Rattle.wasi_host.specs.Answer.{Listed, unless, link_text, listed, listing, open_answer, stat_answer}
use Rattle.wasi_host.specs.Refusal.{refusal}
use Rattle.wasi_host.proofs.Chain.{free}
use Rattle.wasi_host.proofs.Refusals.{free_of}
use Rattle.wasi_resolve.specs.EntryOps.{EntryOp, EntryAnswer, CreateDir, RemoveFile, RemoveDir, Symlink, ReadLink, call_at, unrooted, answer_in, place_for, step_in}
use Rattle.wasi_resolve.specs.EntryOps as at_place
use Rattle.wasi_resolve.specs.TwoPathOps.{Places, places_for, asks_directory, call_at_two, answer_at_two, step_at_two}
use Rattle.wasi_resolve.specs.Paths.{Opening, Place, opening, step_of, timed}
use Rattle.wasi_resolve.specs.Meanings.{listing_options, lists_at}
use Rattle.wasi_resolve.specs.PathRequest.{PathRequest, OpenPath, LookPath, AtEntry, TimesPath, AtTwo, PathReply, answer_at, as_asked, times_through, path_reply, path_after}
use Rattle.wasi_resolve.proofs.Requests.{as_opened}
use Rattle.wasi_p1_types.specs.Listing.{Entry, dots, numbered_at, all_numbered_at, listing_at}
use Rattle.wasi_p1_types.specs.Request.{Request, Reply, Path, Direct, Behind, ListDirectory, Sizes, Grow, reply_of, after}
use Rattle.wasi_p1_types.specs.CallResult.{CallResult, Program, done, asking}
use Rattle.wasi_p1_model.specs.Calls.{call_spec, turn}
use Rattle.wasi_p1_model.specs.Validity.{RunsStayValid, HasBytes, IsValidState}
use Rattle.wasi_p1_types.specs.declared.error.P1Error.{P1Error}
use Rattle.wasi_host.proofs.Agreeing.{unless_value, below_or}
use Rattle.wasi_p1_model.proofs.Alike.{spec_on}
use Rattle.wasi_paths.specs.Parts.{has_root}
use Rattle.wasi_host.specs.declared.errors.ErrorCode.TheVariants.{NotPermitted}
use Rattle.wasi_p1_model.proofs.Bytes.{cut, used_stock}
use Rattle.wasi_p1_model.proofs.Lengthening.{bounded_by}
use Rattle.wasi_p1_model.proofs.Listings.{both_ok}
use Rattle.wasi_p1_model.proofs.Paging.{dots_bytes}
use Rattle.wasi_p1_model.proofs.Utf8.{text_bytes}
use Rattle.wasi_p1_model.proofs.Moving.{Moves, turn_moves, turned_moves, run_keeps, over_tree, over_guest, replied_by}
use Rattle.wasi_p1_model.proofs.LocalCalls.{AreBytes, AreTexts, PathGivesBytes, HasByteNames, GivesBytes, KeepsBytes, MayBeAsked, IsLocal}
use Rattle.wasi_p1_model.proofs.Locality.{spec_near}
use Rattle.wasi_p1_model.proofs.Uses.{with_counts}
use Rattle.wasi_resolve.proofs.Asking.{HasUtf8Target, opening_asked, place_asked, places_asked, link_utf8}

-- ---- what is read of a valid tree

content_bytes : (t : Tree) (n : ℕ) → IsValidTree t → AreBytes (bytes_of (node_at t n).content)
content_bytes t n valid = elim (below_or n (next_of t)) [
  | inl within ↦ by (node_at t n).content (valid.nodes n within)
  | inr past ↦ ap (λ k. are_bytes (bytes_of k.content)) (node_at-past t n past)
]
  where
    by : (content : Content) → IsValidContent t n content → AreBytes (bytes_of content)
    by (File bytes links) is = is.0
    by (Directory names gone) is = refl
    by (Link text links) is = refl

unrooted_is : (text : List ℕ) {reply : List ℕ} → unrooted text ≡ Ok reply → text ≡ reply
unrooted_is text {reply} = by (has_root text)
  where
    by : (b : Bool) → (let r : Result (List ℕ) ErrorCode = cond b (Err NotPermitted) (Ok text) in r) ≡ Ok reply
        → text ≡ reply
    by true is = absurd (cc)
    by false is = cc

-- a link's text are bytes
path_gives_bytes : (t : Tree) (p : PathRequest) (reply : PathReply p) → IsValidTree t → path_reply t p ≡ Ok reply
    → PathGivesBytes p reply
path_gives_bytes t (AtEntry s text ReadLink) reply valid is = by (place_for t s text ReadLink) is
  where
    given : (p : Place) (o : Option ErrorCode)
        → (unless o (link_text t p.directory p.name) >>= unrooted) ≡ Ok reply → AreBytes reply
    given p None same = subst AreBytes (unrooted_is (link_text t p.directory p.name) same)
        (text_bytes (link_text t p.directory p.name) (link_utf8 valid p.directory p.name))
    given p (Some code) same = absurd (cc)

    by : (m : Result Place ErrorCode) → (m >>= answer_in t ReadLink) ≡ Ok reply → AreBytes reply
    by (Ok p) same = given p (refusal t (call_at ReadLink p)) same
    by (Err code) same = absurd (cc)
path_gives_bytes t p reply valid is = tt

-- the names of a directory are bytes
entries_bytes : (t : Tree) (es : List (List ℕ × ℕ)) → All (IsEntry t) es
    → All (λ (e : Listed). AreBytes e.0) (map (listed t) es)
entries_bytes t [] all = All-nil _
entries_bytes t (e ∷ es) all =
    All-cons (λ (e : Listed). AreBytes e.0) (listed t e) (map (listed t) es)
    (text_bytes e.0 (All-head (IsEntry t) e es all).utf8) (entries_bytes t es (All-tail (IsEntry t) e es all))

names_bytes : (t : Tree) (d : ℕ) → IsValidTree t → All (λ (e : Listed). AreBytes e.0) (listing t d)
unfolding listing
names_bytes t d valid = entries_bytes t (maps.entries (names_of (node_at t d).content)) (elim (below_or d (next_of t)) [
  | inl within ↦ by (node_at t d).content (valid.nodes d within)
  | inr past ↦ subst (λ (x : Node). All (IsEntry t) (maps.entries (names_of x.content))) (sym (node_at-past t d past))
      (All-no_names (IsEntry t))
])
  where
    by : (content : Content) → IsValidContent t d content → All (IsEntry t) (maps.entries (names_of content))
    by (File bytes links) is = All-no_names (IsEntry t)
    by (Directory names gone) is = is.0
    by (Link text links) is = All-no_names (IsEntry t)

numbered_bytes : (t : Tree) (d : ℕ) (es : List Listed) {entries : List Entry} → All (λ (e : Listed). AreBytes e.0) es
    → all_numbered_at t d es ≡ Ok entries → HasByteNames entries
numbered_bytes t d [] {entries} all is = let same : [] ≡ entries = (cc) in subst HasByteNames same (All-nil _)
numbered_bytes t d (e ∷ es) {entries} all is =
    let (first, modelled, rest) = both_ok (numbered_at t d e) _ is in
    let (others, later, whole) = both_ok (all_numbered_at t d es) _ rest in
    let (metadata, looked, made) = both_ok (path_reply t (LookPath d e.0 false)) _ modelled in
    let name : e.0 ≡ first.name = (cc) in
    let same : first ∷ others ≡ entries = (cc) in
    subst HasByteNames same (All-cons (λ (e : Entry). AreBytes e.name) first others
    (subst AreBytes name (All-head (λ (e : Listed). AreBytes e.0) e es all))
    (numbered_bytes t d es (All-tail (λ (e : Listed). AreBytes e.0) e es all) later))

-- and so are those of a listing
listing_bytes : (t : Tree) (d : ℕ) {entries : List Entry} → IsValidTree t → listing_at t d ≡ Ok entries
    → HasByteNames entries
unfolding listing_at
listing_bytes t d {entries} valid is =
    let (names, listed, rest) = both_ok (lists_at t d).answer _ is in
    let (own, looked, last) = both_ok (stat_answer t d) _ rest in
    let (others, modelled, whole) = both_ok (all_numbered_at t d names) _ last in
    let (held, opened, given) = both_ok (open_answer t d (codes ".") listing_options) _ listed in
    let bytes = subst (All (λ (e : Listed). AreBytes e.0)) (unless_value _ given) (names_bytes t held.node valid) in
    let same : dots own.node ++ others ≡ entries = (cc) in
    subst HasByteNames same (dots_bytes own.node others (numbered_bytes t d names bytes modelled))

gives_bytes : (t : Tree) (r : Request) (reply : Reply r) → IsValidTree t → reply_of t r ≡ Ok reply → GivesBytes r reply
gives_bytes t (Path p) reply valid is = path_gives_bytes t p reply valid is
gives_bytes t (Direct (Pread f offset n)) bytes valid is =
    let whole = content_bytes t f.node valid in
    subst AreBytes (unless_value _ is) (cut n _ (cut offset (bytes_of (node_at t f.node).content) whole).1).0
gives_bytes t (ListDirectory d) listing valid is = listing_bytes t d valid is
gives_bytes t (Grow limit w) (Some grown) valid is =
    gives_bytes t w grown.1 valid (bounded_by t limit w (Some grown) is).is
gives_bytes t r reply valid is = tt

-- ---- a request

-- what is answered at a place wasn't refused there
place_free : (t : Tree) (what : EntryOp) (p : Place) {reply : EntryAnswer what} → answer_in t what p ≡ Ok reply
    → refusal t (call_at what p) ≡ None
place_free t CreateDir p is = free _ _ _ is
place_free t RemoveFile p is = free _ _ _ is
place_free t RemoveDir p is = free _ _ _ is
place_free t (Symlink target) p is = free _ _ _ is
place_free t (at_place.SetTimes atime mtime) p is = free _ _ _ is
place_free t ReadLink p is = by (refusal t (call_at ReadLink p)) is
  where
    by : (o : Option ErrorCode) {reply : List ℕ} → (unless o (link_text t p.directory p.name) >>= unrooted) ≡ Ok reply
        → o ≡ None
    by None is = refl
    by (Some code) is = absurd (cc)

-- what is done at a place leads to a valid tree
place_valid : (t : Tree) (s : ℕ) (text : List ℕ) (what : EntryOp) {reply : EntryAnswer what} → IsValidTree t
    → IsUtf8 text → HasUtf8Target what → place_for t s text what >>= answer_in t what ≡ Ok reply
    → IsValidTree (step_in t what (place_for t s text what))
place_valid t s text what {reply} valid utf8 target answered = by (place_for t s text what) refl answered
  where
    by : (m : Result Place ErrorCode) → place_for t s text what ≡ m → (m >>= answer_in t what) ≡ Ok reply
        → IsValidTree (step_in t what m)
    by (Ok p) at is =
        valid-step t (call_at what p) valid (place_asked t s text what utf8 target at) (place_free t what p is)
    by (Err code) at is = valid

-- and so do times that are set
times_valid : (t : Tree) (n : ℕ) (atime mtime : Option SystemTime) → IsValidTree t
    → IsValidTree (times_set t n atime mtime)
unfolding refusal
times_valid t n atime mtime valid = valid-step t (calls.SetTimes n atime mtime) valid tt refl

-- where a path ends an open may be asked, and what is done at a place
path_valid : (t : Tree) (p : PathRequest) {reply : PathReply p} → IsValidTree t → AreTexts p
    → path_reply t p ≡ Ok reply → IsValidTree (path_after t p)
path_valid t (OpenPath s text o follow directory) {reply} valid utf8 answered =
    by (opening t s text o follow) refl answered
  where
    by : (m : Result Opening ErrorCode) → opening t s text o follow ≡ m
        → (m >>= answer_at t >>= as_asked directory) ≡ Ok reply → IsValidTree (step_of t m)
    by (Ok e) at is =
        let asked = opening_asked s text o follow valid utf8 at in
        valid-step t (OpenAt e.directory e.name e.options) valid asked
        (free _ _ _ (as_opened directory (answer_at t e) is))
    by (Err code) at is = valid
path_valid t (LookPath s text follow) valid utf8 answered = valid
path_valid t (AtEntry s text what) valid texts answered = place_valid t s text what valid texts.0 texts.1 answered
path_valid t (TimesPath s text true atime mtime) valid utf8 answered = by (timed t s text)
  where
    by : (m : Result OpenHandle ErrorCode) → IsValidTree (times_through t atime mtime m)
    by (Ok held) = times_valid t held.node atime mtime valid
    by (Err code) = valid
path_valid t (TimesPath s text false atime mtime) valid utf8 answered =
    place_valid t s text (at_place.SetTimes atime mtime) valid utf8 tt answered
path_valid t (AtTwo old old_text new new_text what) {reply} valid texts answered =
    by (places_for t old old_text new new_text what) refl answered
  where
    asks : Bool
    asks = asks_directory old_text new_text

    by : (m : Result Places ErrorCode) → places_for t old old_text new new_text what ≡ m
        → (m >>= answer_at_two t what asks) ≡ Ok reply → IsValidTree (step_at_two t what asks m)
    by (Ok p) at is =
        valid-step t (call_at_two what asks p) valid
        (places_asked t old old_text new new_text what asks texts.0 texts.1 at) (free _ _ _ is)
    by (Err code) at is = valid

-- the first of two was answered
request_valid : (t : Tree) (r : Request) {reply : Reply r} → IsValidTree t → MayBeAsked r → reply_of t r ≡ Ok reply
    → IsValidTree (after t r)
request_valid t (Path p) valid may is = path_valid t p valid may is
request_valid t (Direct call) valid may is = valid-step t call valid may (free_of t call is)
request_valid t (Behind f piece) valid may is = valid-step t (Append f piece) valid may (free_of t (Append f piece) (both_ok _ _ is).1)
request_valid t (ListDirectory d) valid may is = valid
request_valid t (Sizes ns) valid may is = valid
request_valid t (Grow limit w) {reply = None} valid may is =
    subst IsValidTree (sym (bounded_by t limit w None is).leaves) valid
request_valid t (Grow limit w) {reply = Some grown} valid may is =
    let did = bounded_by t limit w (Some grown) is in
    subst IsValidTree (sym did.does) (request_valid t w valid may did.is)

-- ---- a turn

spec_valid : (s : State) (call : Call) (m : CallResult (Program (Value × Guest))) (p : Value × State) → IsValidState s
    → IsLocal s.guest call m → spec_on s.tree m ≡ Ok p → IsValidState p.1
spec_valid s call (Ok (done q)) p valid near is = record {
  tree = subst IsValidTree (sym (over_tree (Ok q) is)) valid.tree;
  bytes = subst KeepsBytes (over_guest s.tree (Ok q) is) (near.bytes valid.bytes);
}
spec_valid s call (Ok (asking r next)) p valid near is =
    let did = replied_by s.tree r next is in
    let stepped = request_valid s.tree r valid.tree (near.asked valid.bytes) did.is in
    let read = gives_bytes s.tree r did.reply valid.tree did.is in record {
      tree = subst IsValidTree (sym did.tree) stepped;
      bytes = subst KeepsBytes did.gives (near.bytes valid.bytes did.reply read);
    }
spec_valid s call (Err e) p valid near is = absurd (cc)

-- counts are no bytes
counts_valid : (s s' : State) (used : QuotaUsed) → s'.guest ≡ with_counts used s.guest → IsValidTree s'.tree
    → HasBytes s.guest → IsValidState s'
counts_valid s s' used counts tree bytes =
    record { tree = tree; bytes = subst HasBytes (sym counts) (bytes.0, used_stock s.guest.holdings used bytes.1) }

-- to whatever state it leads
pub moved_valid : (s s' : State) (call : FueledCall) → IsValidState s → Moves s s' (turn s call) → IsValidState s'
moved_valid s s' call valid (inl given) =
    spec_valid s call.call (call_spec s.guest call) _ valid (spec_near s.guest call) given.1
moved_valid s s' call valid (inr still) = counts_valid s s' still.used still.guest (elim still.tree [
  | inl same ↦ subst IsValidTree (sym same) valid.tree
  | inr step ↦ subst IsValidTree (sym step.tree)
      (spec_valid s call.call (call_spec s.guest call) step.given valid (spec_near s.guest call) step.answers).tree
]) valid.bytes

pub turn_valid : {rose : Type 0} {w v : HostModel} {g g' : Guest} {call : FueledCall} {r : Result Value P1Error}
    → Turns rose w v g g' call r → IsValidState (in_model w g) → IsValidState (in_model v g')
turn_valid {rose} {w} {v} {g} {g'} {call} {r} takes valid =
    moved_valid (in_model w g) (in_model v g') call valid (turn_moves rose _ call r takes.turn)

-- ---- a run

pub run_valid : RunsStayValid
run_valid k old new calls turns run valid =
    run_keeps IsValidState (λ t took held. moved_valid t.before t.after t.call held (turned_moves t took)) calls turns k old
    new run valid
