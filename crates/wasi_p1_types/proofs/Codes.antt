-- Which codes the host's table, walks and requests refuse with: those whose error numbers a call may be answered.
use Rattle.std.proofs.Common.{ℕ, zero, suc, true, false, cond, Bool, List, [], ◌∷◌, ◌++◌, refl, sym, subst, Option, Some, None, Result, Ok, Err}
use Rattle.std.specs.Prelude.{IfErr, IfSome, IsTrue, ◌&&◌, codes as codes_of}
use Rattle.wasi_paths.specs.Parts.{Component, RootDir, CurDir, ParentDir, Normal, has_root, is_empty, parts, split, trailing_slash}
use Rattle.wasi_host.specs.Answer.{Listed, host_answer, list_answer, open_answer, unless}
use Rattle.wasi_host.specs.HostCall.{HostCall, Access, Append, ListDir, OpenAt, RenameAt, Stat, StatAt}
use Rattle.wasi_host.specs.Options.{Options}
use Rattle.wasi_host.specs.Refusal.{first_rule, moving_rules, naming_rules, loop_rules, refusal, refusal_rules}
use Rattle.wasi_host.specs.Step.{step}
use Rattle.wasi_host.specs.Steps.{◌>>=◌}
use Rattle.wasi_host.specs.Tree.{Tree, child, hold_one, node_at}
use Rattle.wasi_host.specs.declared.errors.ErrorCode.{ErrorCode}
use Rattle.wasi_host.specs.declared.errors.ErrorCode.TheVariants as codes
use Rattle.wasi_host.specs.declared.open_handle.OpenHandle.{OpenHandle}
use Rattle.wasi_host.proofs.Refusals.{unless_refused as answered_unless}
use Rattle.wasi_resolve.specs.EntryOps.{EntryOp, CreateDir, ReadLink, RemoveDir, RemoveFile, SetTimes, Symlink, answer_in, call_at, place_for, unrooted}
use Rattle.wasi_resolve.specs.TwoPathOps.{TwoPathOp, asks_directory, call_at_two, places_for, text_for}
use Rattle.wasi_resolve.specs.Meanings.{lists_at, listing_options}
use Rattle.wasi_resolve.specs.PathRequest.{AtEntry, AtTwo, LookPath, OpenPath, Opened, PathRequest, TimesPath, answer_at, as_asked, path_reply}
use Rattle.wasi_resolve.specs.Paths.{Opening, Place, access_unsupported, behind_slash, directory_options, looked, looked_at, opened, opened_by, opening, opening_of, or_else, parent, place, place_at, reading, timed, timed_again, writing}
use Rattle.wasi_resolve.specs.Walk.{Aim, Dot, Ended, Leg, Linked, Look, Name, Open, Outcome, Position, Stop, Walk, at, ended, is_to_be_read, leg, one_link_more, refused, resume, unless_refused, walk, walk_from}
use Rattle.wasi_p1_types.specs.Errnos.{errno_of}
use Rattle.wasi_p1_types.specs.ErrorNumbers.{may_be_answered}
use Rattle.wasi_p1_types.specs.Listing.{all_numbered_at, listing_at, numbered_at}
use Rattle.wasi_p1_types.specs.Quotas.{is_above}
use Rattle.wasi_p1_types.specs.Request.{Behind, Direct, Grow, ListDirectory, Path, Request, Sizes, growth_at, grown_reply, reply_of}
use Rattle.std.proofs.lemmas.Bool.{and_parts}

abbrev pub is_known : ErrorCode → Bool
is_known code = may_be_answered (errno_of code)

abbrev pub IsKnown : ErrorCode → Type 0
IsKnown code = IsTrue (is_known code)

-- no other code refuses
abbrev pub Knows : {A : Type 0} → Result A ErrorCode → Type 0
Knows m = IfErr m IsKnown

-- ---- rules

abbrev all_known : List (Bool × ErrorCode) → Bool
all_known [] = true
all_known (row ∷ rows) = is_known row.1 && all_known rows

pub first_known : (rows : List (Bool × ErrorCode)) → IsTrue (all_known rows) → IfSome (first_rule rows) IsKnown
first_known [] known = tt
first_known ((true, code) ∷ rows) known = (and_parts (is_known code) (all_known rows) known).0
first_known ((false, code) ∷ rows) known = first_known rows (and_parts (is_known code) (all_known rows) known).1

rules_known : (t : Tree) (call : HostCall) → IsTrue (all_known (refusal_rules t call))
rules_known t (RenameAt old old_name new new_name requires_dir) =
    by (hold_one (child t old old_name) (child t new new_name))
  where
    by : (b : Bool) → IsTrue (all_known (naming_rules t old old_name new new_name requires_dir
        ++ (loop_rules t old new (child t old old_name) (child t new new_name)
        ++ cond b [] (moving_rules t old new (child t old old_name) (child t new new_name)))))
    by true = refl
    by false = refl
rules_known t call = refl

-- ---- the host's table

pub refusal_known : (t : Tree) (call : HostCall) → IfSome (refusal t call) IsKnown
unfolding refusal
refusal_known t call = first_known (refusal_rules t call) (rules_known t call)

unless_known : {B : Type 0} (own : Option ErrorCode) (x : B) → IfSome own IsKnown → Knows (unless own x)
unless_known None x known = tt
unless_known (Some code) x known = known

host_known : (t : Tree) (call : HostCall) → Knows (host_answer t call)
host_known t call =
    let answer = answered_unless t call in
    subst Knows (sym answer.1) (unless_known (refusal t call) answer.0 (refusal_known t call))

-- ---- one step after another

then : {A B : Type 0} (m : Result A ErrorCode) (next : A → Result B ErrorCode) → Knows m → ((x : A) → Knows (next x))
    → Knows (m >>= next)
then (Ok x) next first known = known x
then (Err code) next first known = first

-- ---- walks

abbrev EndsKnown : Outcome → Type 0
EndsKnown (Stop code) = IsKnown code
EndsKnown (Name d name slash) = Unit {0}
EndsKnown (Dot d) = Unit {0}

abbrev LegKnown : Leg Position → Type 0
LegKnown (Ended m outcome) = EndsKnown outcome
LegKnown (Linked m names text left) = Unit {0}

-- on where nothing refuses
on_known : (m : ℕ) (own : Option ErrorCode) (l : Leg Position) → IfSome own IsKnown → LegKnown l
    → LegKnown (unless_refused m own l)
on_known m None l own rest = rest
on_known m (Some code) l own rest = own

module _ (t : Tree) (s : ℕ) (aim : Aim) (follow : Bool) where
  name_known : (slash is_last : Bool) (d : ℕ) (name : List ℕ) → IfSome (refused t aim slash is_last d name) IsKnown
  name_known slash false d name = refusal_known t _
  name_known slash true d name = last aim
    where
      last : (aim : Aim) → IfSome (refused t aim slash true d name) IsKnown
      last (Open o) = refusal_known t _
      last Look = refusal_known t _

  either : (b : Bool) (l l' : Leg Position) → LegKnown l → LegKnown l' → LegKnown (cond b l l')
  either true l l' one other = one
  either false l l' one other = other

  leg_known : (slash : Bool) (m : ℕ) (left : List Component) (names : Position)
      → LegKnown (leg t s aim follow slash m left names)
  leg_known slash m [] names = tt
  leg_known slash m (RootDir ∷ left) names = refl
  leg_known slash m (CurDir ∷ left) names = leg_known slash (suc m) left names
  leg_known slash m (ParentDir ∷ left) [] = refl
  leg_known slash m (ParentDir ∷ left) (name ∷ names) =
      either (node_at t (at t s (name ∷ names))).bits.x _ _ (leg_known slash (suc m) left names) refl
  leg_known slash m (Normal name ∷ []) names =
      either (is_to_be_read t aim follow slash true (at t s names) name) _ _ tt tt
  leg_known slash m (Normal name ∷ part ∷ left) names =
      either (is_to_be_read t aim follow slash false (at t s names) name) _ _ tt
      (on_known (suc m) (refused t aim slash false (at t s names) name) _
      (name_known slash false (at t s names) name) (leg_known slash (suc m) (part ∷ left) (name ∷ names)))

  resumed : (on : Bool → ℕ → List Component → Position → Walk) (slash : Bool) (l : Leg Position) → LegKnown l
      → ((slash : Bool) (m : ℕ) (left : List Component) (names : Position) → EndsKnown (on slash m left names).outcome)
      → EndsKnown (resume on slash l).outcome
  resumed on slash (Ended m outcome) known rest = known
  resumed on slash (Linked m names text left) known rest = rest _ _ _ _

  from_known : (links : ℕ) (slash : Bool) (m : ℕ) (left : List Component) (names : Position)
      → EndsKnown (walk_from t s aim follow links slash m left names).outcome
  from_known zero slash m left names =
      resumed (λ _ m _ _. ended m (Stop codes.Loop)) slash (leg t s aim follow slash m left names)
      (leg_known slash m left names) (λ _ _ _ _. refl)
  from_known (suc links) slash m left names =
      resumed (λ slash m left names. one_link_more (walk_from t s aim follow links slash m left names)) slash
      (leg t s aim follow slash m left names) (leg_known slash m left names) (from_known links)

  walk_known : (text : List ℕ) → EndsKnown (walk t s text aim follow).outcome
  unfolding walk
  walk_known text = by (is_empty text)
    where
      by : (b : Bool) → EndsKnown (cond b (ended 0 (Stop codes.NoEntry)) (walk_from t s aim follow 40
          (trailing_slash text) 0 (parts text) [])).outcome
      by true = refl
      by false = from_known 40 (trailing_slash text) 0 (parts text) []

-- ---- what a path means

module _ (t : Tree) (s : ℕ) where
  opening_known : (text : List ℕ) (o : Options) (follow : Bool) → Knows (opening t s text o follow)
  unfolding opening
  opening_known text o follow =
      by (walk t s text (Open o) follow).outcome (walk_known t s (Open o) follow text)
    where
      dot : (d : ℕ) (writes : Bool) → Knows (let m : Result Opening ErrorCode = cond writes (Err codes.IsDirectory)
          (Ok (record { directory = d; name = codes_of "."; options = o })) in m)
      dot d true = refl
      dot d false = tt

      by : (outcome : Outcome) → EndsKnown outcome → Knows (opening_of o outcome)
      by (Stop code) known = known
      by (Name d name slash) known = tt
      by (Dot d) known = dot d o.write

  opened_known : (text : List ℕ) (o : Options) (follow : Bool) → Knows (opened t s text o follow)
  opened_known text o follow = then (opening t s text o follow) (opened_by t) (opening_known text o follow)
      (λ e. host_known t (OpenAt e.directory e.name e.options))

  looked_known : (text : List ℕ) (follow : Bool) → Knows (looked t s text follow)
  unfolding looked
  looked_known text follow = by (walk t s text Look follow).outcome (walk_known t s Look follow text)
    where
      behind : (n : ℕ) (wrong : Bool)
          → Knows (let m : Result ℕ ErrorCode = cond wrong (Err codes.NotDirectory) (Ok n) in m)
      behind n true = refl
      behind n false = tt

      by : (outcome : Outcome) → EndsKnown outcome → Knows (looked_at t outcome)
      by (Stop code) known = known
      by (Name d name slash) known = then (unless (refusal t (StatAt d name)) _) (behind_slash t slash)
          (unless_known (refusal t (StatAt d name)) _ (refusal_known t (StatAt d name))) (λ n. behind n _)
      by (Dot d) known = unless_known (refusal t (Access d)) d (refusal_known t (Access d))

  parent_known : (text : List ℕ) → Knows (parent t s text)
  parent_known [] = tt
  parent_known (b ∷ text) = then (opened t s (b ∷ text) directory_options true) _
      (opened_known (b ∷ text) directory_options true) (λ _. tt)

  place_known : (text : List ℕ) → Knows (place t s text)
  unfolding place
  place_known text = by (split text)
    where
      by : (o : Option (List ℕ × Component)) → Knows (place_at t s o)
      by None = refl
      by (Some halves) = then (parent t s halves.0) _ (parent_known halves.0) (λ _. tt)

  timed_known : (text : List ℕ) → Knows (timed t s text)
  unfolding timed
  timed_known text = by (opened t s text writing true) (opened_known text writing true)
    where
      unsupported : (m : Result OpenHandle ErrorCode) → Knows m → Knows (or_else access_unsupported m)
      unsupported (Ok held) known = tt
      unsupported (Err codes.Access) known = refl
      unsupported (Err code) known = known

      again : (code : ErrorCode) → IsKnown code → Knows (timed_again t s text code)
      again codes.Access known = unsupported (opened t s text reading true) (opened_known text reading true)
      again codes.IsDirectory known = unsupported (opened t s text reading true) (opened_known text reading true)
      again code known = known

      by : (m : Result OpenHandle ErrorCode) → Knows m → Knows (or_else (timed_again t s text) m)
      by (Ok held) known = tt
      by (Err code) known = again code known

-- ---- what is done at places

unrooted_known : (text : List ℕ) → Knows (unrooted text)
unrooted_known text = by (has_root text)
  where
    by : (b : Bool) → Knows (let m : Result (List ℕ) ErrorCode = cond b (Err codes.NotPermitted) (Ok text) in m)
    by true = refl
    by false = tt

done_known : (t : Tree) (what : EntryOp) (p : Place) → Knows (answer_in t what p)
done_known t ReadLink p = then (host_answer t (call_at ReadLink p)) unrooted (host_known t (call_at ReadLink p)) unrooted_known
done_known t CreateDir p = host_known t (call_at CreateDir p)
done_known t RemoveFile p = host_known t (call_at RemoveFile p)
done_known t RemoveDir p = host_known t (call_at RemoveDir p)
done_known t (Symlink text) p = host_known t (call_at (Symlink text) p)
done_known t (SetTimes atime mtime) p = host_known t (call_at (SetTimes atime mtime) p)

at_place_known : (t : Tree) (s : ℕ) (text : List ℕ) (what : EntryOp) → Knows (place_for t s text what >>= answer_in t what)
at_place_known t s text what = then (place_for t s text what) (answer_in t what) (place_known t s _) (done_known t what)

places_known : (t : Tree) (old : ℕ) (old_text : List ℕ) (new : ℕ) (new_text : List ℕ) (what : TwoPathOp)
    → Knows (places_for t old old_text new new_text what)
places_known t old old_text new new_text what = then (place t old (text_for what old_text)) _ (place_known t old _)
    (λ p. then (place t new (text_for what new_text)) _ (place_known t new _) (λ q. tt))

-- ---- requests

path_known : (t : Tree) (r : PathRequest) → Knows (path_reply t r)
path_known t (OpenPath s text o follow directory) =
    then (opening t s text o follow >>= answer_at t) (as_asked directory)
    (then (opening t s text o follow) (answer_at t) (opening_known t s text o follow)
    (λ e. unless_known (refusal t (OpenAt e.directory e.name e.options)) _ (refusal_known t _))) (λ found. by found _)
  where
    by : (found : Opened) (b : Bool)
        → Knows (let m : Result Opened ErrorCode = cond b (Err codes.NotDirectory) (Ok found) in m)
    by found true = refl
    by found false = tt
path_known t (LookPath s text follow) = then (looked t s text follow) _ (looked_known t s text follow) (λ _. tt)
path_known t (AtEntry s text what) = at_place_known t s text what
path_known t (TimesPath s text true atime mtime) = then (timed t s text) _ (timed_known t s text) (λ _. tt)
path_known t (TimesPath s text false atime mtime) = at_place_known t s text (SetTimes atime mtime)
path_known t (AtTwo old old_text new new_text what) = then (places_for t old old_text new new_text what) _
    (places_known t old old_text new new_text what)
    (λ p. unless_known (refusal t (call_at_two what (asks_directory old_text new_text) p)) tt (refusal_known t _))

numbered_known : (t : Tree) (d : ℕ) (es : List Listed) → Knows (all_numbered_at t d es)
numbered_known t d [] = tt
numbered_known t d (e ∷ es) = then (numbered_at t d e) _
    (then (path_reply t (LookPath d e.0 false)) _ (path_known t (LookPath d e.0 false)) (λ _. tt))
    (λ first. then (all_numbered_at t d es) _ (numbered_known t d es) (λ others. tt))

listing_known : (t : Tree) (d : ℕ) → Knows (listing_at t d)
unfolding listing_at
listing_known t d = then (lists_at t d).answer _
    (then (open_answer t d (codes_of ".") listing_options) (list_answer t)
    (host_known t (OpenAt d (codes_of ".") listing_options)) (λ held. host_known t (ListDir held)))
    (λ names. then (host_answer t (Stat d)) _ (host_known t (Stat d))
    (λ own. then (all_numbered_at t d names) _ (numbered_known t d names) (λ entries. tt)))

-- what is answered beside a growth
grown_known : {A : Type 0} (above : Bool) (growth : ℕ) (answer : Result A ErrorCode) → Knows answer
    → Knows (grown_reply above growth answer)
grown_known true growth answer known = tt
grown_known false growth (Ok x) known = tt
grown_known false growth (Err code) known = known

-- what a request is refused with
pub reply_known : (t : Tree) (r : Request) → Knows (reply_of t r)
reply_known t (Path p) = path_known t p
reply_known t (Direct call) = host_known t call
reply_known t (Behind f piece) = then (host_answer t (Append f piece)) _ (host_known t (Append f piece))
    (λ count. then (host_answer (step t (Append f piece)) (Stat f.node)) _ (host_known _ (Stat f.node)) (λ metadata. tt))
reply_known t (ListDirectory d) = listing_known t d
reply_known t (Sizes ns) = tt
reply_known t (Grow limit w) =
    grown_known (is_above limit (growth_at t limit w)) (growth_at t limit w) (reply_of t w) (reply_known t w)
