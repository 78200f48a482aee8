-- How many nodes a request makes, and by how many bytes it makes files longer.
use Rattle.std.proofs.Common.{◌≡◌, ℕ, ◌+◌, ◌≤◌, Bool, true, false, cond, List, Option, Some, None, Result, Ok, Err, refl, ap, sym, ◌∙◌, subst, arith}
use Rattle.std.proofs.lemmas.Bool.Decides.{nat_tests}
use Rattle.wasi_fs.specs.OpenFlags.{includes}
use Rattle.wasi_fs.specs.OpenHow.{OpenHow, mode_of, options_of}
use Rattle.wasi_fs.specs.OpenMode.{mode_bits, mode_for}
use Rattle.wasi_guest.specs.Flags as flag
use Rattle.wasi_guest.specs.Flags.{are_known, flags_in, has, known_fdflags, known_lookupflags, known_oflags, known_rights}
use Rattle.wasi_host.specs.Answer.{access_of, host_answer}
use Rattle.wasi_host.specs.HostCall as calls
use Rattle.wasi_host.specs.HostCall.{OpenAt, Pwrite, Append, SetSize}
use Rattle.wasi_host.specs.Options.{Options, creates}
use Rattle.wasi_host.specs.Refusal.{can_write, refusal}
use Rattle.wasi_host.specs.Step.{open_step, step}
use Rattle.wasi_host.specs.Steps.{◌>>=◌}
use Rattle.wasi_host.specs.Tree.{Tree}
use Rattle.wasi_host.specs.declared.errors.ErrorCode.{ErrorCode}
use Rattle.wasi_host.specs.declared.errors.ErrorCode.TheVariants.{IsDirectory}
use Rattle.wasi_host.specs.declared.open_handle.AccessMode.{AccessMode}
use Rattle.wasi_host.specs.declared.open_handle.OpenHandle.{OpenHandle}
use Rattle.wasi_host.specs.declared.system_time.SystemTime.{SystemTime}
use Rattle.wasi_host.proofs.Agreeing.{unless_value}
use Rattle.wasi_host.proofs.Chain.{free}
use Rattle.wasi_host.proofs.Refusals.{free_of}
use Rattle.wasi_resolve.specs.EntryOps.{EntryOp, CreateDir, RemoveFile, RemoveDir, Symlink, ReadLink, SetTimes, call_at, place_for, step_in}
use Rattle.wasi_resolve.specs.TwoPathOps.{TwoPathOp, HardLink, Rename, Places, asks_directory, call_at_two, places_for, step_at_two}
use Rattle.wasi_resolve.specs.PathRequest.{PathRequest, OpenPath, LookPath, AtEntry, TimesPath, AtTwo, Opened, PathReply, answer_at, as_asked, opened_at, path_after, path_reply, times_through}
use Rattle.wasi_resolve.specs.Paths.{Opening, Place, opening, opening_of, step_of, timed}
use Rattle.wasi_resolve.specs.Walk.{Open, Outcome, Stop, Name, Dot, walk}
use Rattle.wasi_resolve.proofs.Requests.{as_opened}
use Rattle.wasi_resolve.proofs.WalkAgreeing.{there}
use Rattle.wasi_p1_model.specs.Putting.{put_call, put_request}
use Rattle.wasi_p1_types.specs.RawFlags.{how_by, open_how, or_inval}
use Rattle.wasi_p1_types.specs.Request.{Request, Reply, Direct, Grow, after, growth_at, growth_in, reply_of}
use Rattle.wasi_p1_types.specs.CallResult.{CallResult, give}
use Rattle.wasi_p1_types.specs.declared.quotas.Allowance.{Allowance}
use Rattle.wasi_p1_model.proofs.Lengthening.{Lengthens}
use Rattle.wasi_p1_model.proofs.TotalBytes.{Within, found_within, full_growth, step_within, within_itself, within_more}

-- ---- a path is opened

-- the open to which a path leads, with these options, which is answered
pub record OpensName (t u : Tree) (o : Options) (found : Opened) : Type 0 where
  pub opening : Opening
  pub write : opening.options.write ≡ o.write
  pub creates : creates opening.options ≡ creates o
  pub step : u ≡ open_step t opening.directory opening.name opening.options
  pub free : refusal t (OpenAt opening.directory opening.name opening.options) ≡ None
  pub answer : found ≡ opened_at t opening.directory opening.name opening.options

pub opens_name : (t : Tree) (d : ℕ) (text : List ℕ) (o : Options) (follow directory : Bool) {found : Opened}
    → path_reply t (OpenPath d text o follow directory) ≡ Ok found
    → OpensName t (path_after t (OpenPath d text o follow directory)) o found
unfolding opening
opens_name t d text o follow directory {found} answered = by (walk t d text (Open o) follow).outcome answered
  where
    Answered : Result Opening ErrorCode → Type 0
    Answered m = (m >>= answer_at t >>= as_asked directory) ≡ Ok found

    ended : (e : Opening) → e.options.write ≡ o.write → creates e.options ≡ creates o → Answered (Ok e)
        → OpensName t (step_of t (Ok e)) o found
    ended e writes makes is = let answered = as_opened directory (answer_at t e) is in record {
      opening = e;
      write = writes;
      creates = makes;
      step = refl;
      free = free _ _ _ answered;
      answer = sym (unless_value _ answered);
    }

    dot : (e : Opening) → e.options ≡ o → (write : Bool) → Answered (cond write (Err IsDirectory) (Ok e))
        → OpensName t (step_of t (cond write (Err IsDirectory) (Ok e))) o found
    dot e same true is = absurd (cc)
    dot e same false is = ended e (ap (λ (p : Options). p.write) same) (ap creates same) is

    by : (outcome : Outcome) → Answered (opening_of o outcome) → OpensName t (step_of t (opening_of o outcome)) o found
    by (Stop code) is = absurd (cc)
    by (Name d name slash) is = ended _ refl refl is
    by (Dot d) is = dot _ refl o.write is

-- a file may be made
pub open_makes : (t : Tree) (d : ℕ) (text : List ℕ) (o : Options) (follow directory : Bool) {found : Opened}
    → path_reply t (OpenPath d text o follow directory) ≡ Ok found
    → Within 1 0 t (path_after t (OpenPath d text o follow directory))
open_makes t d text o follow directory answered =
    let opens = opens_name t d text o follow directory answered in
    let e = opens.opening in
    subst (Within 1 0 t) (sym opens.step) (step_within t (OpenAt e.directory e.name e.options))

-- and none where that isn't asked for
pub open_finds : (t : Tree) (d : ℕ) (text : List ℕ) (o : Options) (follow directory : Bool) {found : Opened}
    → creates o ≡ false → path_reply t (OpenPath d text o follow directory) ≡ Ok found
    → Within 0 0 t (path_after t (OpenPath d text o follow directory))
unfolding open_step
open_finds t d text o follow directory none answered =
    let opens = opens_name t d text o follow directory answered in
    let e = opens.opening in
    let (n, is) = there t e.directory e.name e.options (opens.creates ∙ none) opens.free in
    subst (Within 0 0 t) (sym opens.step)
    (rw is (found_within t e.directory e.name e.options n))

-- ---- what a handle is opened for

writes_open : (o : Options) → can_write (access_of o) ≡ true → o.write ≡ true
writes_open o = by o.dir_required o.readdir_required o.read o.write
  where
    by : (dir list read write : Bool)
        → can_write (access_of (record o { dir_required = dir; readdir_required = list; read = read; write = write })) ≡ true
        → write ≡ true
    by dir list read true is = refl
    by true true read false is = absurd (cc)
    by true false read false is = absurd (cc)
    by false list read false is = absurd (cc)

mode_writes : (read write : Bool) → write ≡ true → includes (mode_bits (mode_for read write)) 2 ≡ true
mode_writes true true is = refl
mode_writes false true is = refl
mode_writes read false is = absurd (cc)

-- a path's open gives a handle that writes only where the descriptor's mode has it
pub open_as_asked : (t : Tree) (d : ℕ) (text : List ℕ) (how : OpenHow) {found : Opened}
    → path_reply t (OpenPath d text (options_of how) how.follow how.directory) ≡ Ok found
    → can_write found.held.mode ≡ true → includes (mode_bits (mode_of how)) 2 ≡ true
open_as_asked t d text how {found} answered writes =
    let opens = opens_name t d text (options_of how) how.follow how.directory answered in
    let mode : found.held.mode ≡ access_of opens.opening.options = ap (λ (f : Opened). f.held.mode) opens.answer in
    let asked = writes_open opens.opening.options (ap can_write (sym mode) ∙ writes) in
    mode_writes (options_of how).read (options_of how).write (sym opens.write ∙ asked)

-- an open creates where its flags ask for that
pub creates_asked : (dirflags oflags base inheriting fdflags : ℕ) {how : OpenHow}
    → open_how dirflags oflags base inheriting fdflags ≡ Ok how → how.create ≡ has oflags flag.creat
unfolding open_how
creates_asked dirflags oflags base inheriting fdflags {how} is =
    by (or_inval (flags_in known_lookupflags dirflags)) (are_known known_oflags oflags)
    (or_inval (flags_in known_rights base)) (or_inval (flags_in known_rights inheriting))
    (or_inval (flags_in known_fdflags fdflags)) is
  where
    by : (lookups : CallResult ℕ) (known : Bool) (rights more modes : CallResult ℕ)
        → (lookups >>= (λ l. or_inval (cond known (Some oflags) None) >>= (λ o. rights >>= (λ r. more >>= (λ _.
        modes >>= (λ m. give (how_by l o r m))))))) ≡ Ok how → how.create ≡ has oflags flag.creat
    by (Ok l) true (Ok r) (Ok x) (Ok m) is =
        let same : how_by l oflags r m ≡ how = (cc) in ap (λ (h : OpenHow). h.create) (sym same)
    by lookups known rights more modes is = absurd (cc)

-- ---- something is done at a place, or at two

place_within : {made : ℕ} (t : Tree) (what : EntryOp) → ((p : Place) → Within made 0 t (step t (call_at what p)))
    → (m : Result Place ErrorCode) → Within made 0 t (step_in t what m)
place_within t what steps (Ok p) = steps p
place_within t what steps (Err code) = within_more within_itself

two_within : (t : Tree) (what : TwoPathOp) (asks : Bool) (m : Result Places ErrorCode)
    → Within 0 0 t (step_at_two t what asks m)
two_within t HardLink asks (Ok p) = step_within t (call_at_two HardLink asks p)
two_within t Rename asks (Ok p) = step_within t (call_at_two Rename asks p)
two_within t what asks (Err code) = within_itself

times_within : (t : Tree) (atime mtime : Option SystemTime) (m : Result OpenHandle ErrorCode)
    → Within 0 0 t (times_through t atime mtime m)
times_within t atime mtime (Ok held) = step_within t (calls.SetTimes held.node atime mtime)
times_within t atime mtime (Err code) = within_itself

-- the most nodes that a call at a place makes
abbrev pub made_at : EntryOp → ℕ
made_at CreateDir = 1
made_at RemoveFile = 0
made_at RemoveDir = 0
made_at (Symlink text) = 1
made_at ReadLink = 0
made_at (SetTimes atime mtime) = 0

pub at_place : (t : Tree) (what : EntryOp) (m : Result Place ErrorCode) → Within (made_at what) 0 t (step_in t what m)
at_place t CreateDir m = place_within t CreateDir (λ p. step_within t (call_at CreateDir p)) m
at_place t RemoveFile m = place_within t RemoveFile (λ p. step_within t (call_at RemoveFile p)) m
at_place t RemoveDir m = place_within t RemoveDir (λ p. step_within t (call_at RemoveDir p)) m
at_place t (Symlink text) m = place_within t (Symlink text) (λ p. step_within t (call_at (Symlink text) p)) m
at_place t ReadLink m = place_within t ReadLink (λ p. step_within t (call_at ReadLink p)) m
at_place t (SetTimes atime mtime) m =
    place_within t (SetTimes atime mtime) (λ p. step_within t (call_at (SetTimes atime mtime) p)) m

-- the most that a request through a path makes
abbrev pub made_by : PathRequest → ℕ
made_by (OpenPath s text o follow directory) = 1
made_by (LookPath s text follow) = 0
made_by (AtEntry s text what) = made_at what
made_by (TimesPath s text follow atime mtime) = 0
made_by (AtTwo old old_text new new_text what) = 0

pub path_within : (t : Tree) (p : PathRequest) {reply : PathReply p} → path_reply t p ≡ Ok reply
    → Within (made_by p) 0 t (path_after t p)
path_within t (OpenPath s text o follow directory) answered = open_makes t s text o follow directory answered
path_within t (LookPath s text follow) answered = within_itself
path_within t (AtEntry s text what) answered = at_place t what (place_for t s text what)
path_within t (TimesPath s text true atime mtime) answered = times_within t atime mtime (timed t s text)
path_within t (TimesPath s text false atime mtime) answered =
    at_place t (SetTimes atime mtime) (place_for t s text (SetTimes atime mtime))
path_within t (AtTwo old old_text new new_text what) answered =
    two_within t what (asks_directory old_text new_text) (places_for t old old_text new new_text what)

-- ---- a file is written or given a size

-- a request that does so through a handle of this mode
pub record IsWrite (mode : AccessMode) (w : Request) : Type 0 where
  pub none : (t : Tree) → growth_in t w ≡ 0
  pub within : (t : Tree) → Within 0 (full_growth t w) t (after t w)
  pub writes : (t : Tree) (reply : Reply w) → reply_of t w ≡ Ok reply → can_write mode ≡ true

pwrite_writes : (t : Tree) (f : OpenHandle) (offset : ℕ) (piece : List ℕ) → refusal t (Pwrite f offset piece) ≡ None
    → can_write f.mode ≡ true
unfolding refusal
pwrite_writes t f offset piece none = grind arith

append_writes : (t : Tree) (f : OpenHandle) (piece : List ℕ) → refusal t (Append f piece) ≡ None → can_write f.mode ≡ true
unfolding refusal
append_writes t f piece none = grind arith

size_writes : (t : Tree) (f : OpenHandle) (size : ℕ) → refusal t (SetSize f size) ≡ None → can_write f.mode ≡ true
unfolding refusal
size_writes t f size none = grind arith

pub put_is_write : (append : Bool) (f : OpenHandle) (offset : ℕ) (piece : List ℕ)
    → IsWrite f.mode (Direct (put_call append f offset piece))
put_is_write true f offset piece = record {
  none = λ t. refl;
  within = λ t. step_within t (Append f piece);
  writes = λ t reply is. append_writes t f piece (free_of t (Append f piece) is);
}
put_is_write false f offset piece = record {
  none = λ t. refl;
  within = λ t. step_within t (Pwrite f offset piece);
  writes = λ t reply is. pwrite_writes t f offset piece (free_of t (Pwrite f offset piece) is);
}

-- the first of two answers
first_answer : {A B C : Type 0} {c : C} (m : Result A ErrorCode) (n : A → Result B ErrorCode) (f : A → B → C)
    → (m >>= (λ a. n a >>= (λ b. Ok (f a b)))) ≡ Ok c → (a : A) × (m ≡ Ok a)
first_answer (Ok a) n f is = (a, refl)
first_answer (Err code) n f is = absurd (cc)

pub request_is_write : (append : Bool) (f : OpenHandle) (offset : ℕ) (piece : List ℕ)
    → IsWrite f.mode (put_request append f offset piece)
request_is_write true f offset piece = record {
  none = λ t. refl;
  within = λ t. step_within t (Append f piece);
  writes = λ t reply is. let (count, done) = first_answer (host_answer t (Append f piece)) _ _ is in
      append_writes t f piece (free_of t (Append f piece) done);
}
request_is_write false f offset piece = put_is_write false f offset piece

pub size_is_write : (f : OpenHandle) (size : ℕ) → IsWrite f.mode (Direct (SetSize f size))
size_is_write f size = record {
  none = λ t. refl;
  within = λ t. step_within t (SetSize f size);
  writes = λ t reply is. size_writes t f size (free_of t (SetSize f size) is);
}

-- ---- within a bound

-- an answered growth stays within the bound; and where a handle of this mode writes only what growth is reckoned of, the
-- file is no more than so much longer
pub record Grows (t : Tree) (mode : AccessMode) (limit : Allowance) (w : Request) : Type 0 where
  pub fits : limit.used + growth_at t limit w ≤ limit.most
  pub within : Within 0 (full_growth t w) t (after t (Grow limit w))
  pub reckoned : (can_write mode ≡ true → limit.may_grow ≡ true) → growth_at t limit w ≡ full_growth t w

pub grow_within : {mode : AccessMode} (t : Tree) (limit : Allowance) (w : Request) {grown : ℕ × Reply w} → IsWrite mode w
    → Lengthens t limit w grown → Grows t mode limit w
grow_within t limit w write longer = let above = longer.within in record {
  fits = grind (arith, nat_tests);
  within = rw longer.does (write.within t);
  reckoned = λ reckons. rw (reckons (write.writes t _ longer.is)) refl;
}
