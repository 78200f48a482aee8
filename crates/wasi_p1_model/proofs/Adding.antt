-- Requests that add, and what append-only permissions let through.
use Rattle.std.proofs.Common.{◌≡◌, ℕ, Bool, true, false, cond, List, Option, Some, None, Result, Ok, Err, refl, ap, arith}
use Rattle.wasi_fs.specs.Calls.{may_do, may_add_name, may_rename, opens}
use Rattle.wasi_fs.specs.OpenHow.{OpenHow, may_open, options_of}
use Rattle.wasi_fs.specs.Perms.{differ}
use Rattle.wasi_fs.specs.declared.perms.Act.TheVariants.{Alter}
use Rattle.wasi_fs.specs.declared.perms.FsPerms.{FsPerms}
use Rattle.wasi_fs.specs.declared.perms.FsPerms.TheVariants.{ReadOnly, AppendOnly, ReadWrite}
use Rattle.wasi_host.specs.HostCall.{OpenAt, MakeDirAt, SymlinkAt, LinkAt}
use Rattle.wasi_host.specs.Options.{Options}
use Rattle.wasi_host.specs.Refusal.{refusal}
use Rattle.wasi_host.specs.Step.{step, open_step, opened_step, is_cut, file_cut, link_step, added_step}
use Rattle.wasi_host.specs.Steps.{◌>>=◌}
use Rattle.wasi_host.specs.Tree.{Tree, node_at, child}
use Rattle.wasi_host.specs.declared.errors.ErrorCode.{ErrorCode}
use Rattle.wasi_host.specs.declared.errors.ErrorCode.TheVariants.{IsDirectory}
use Rattle.wasi_host.specs.declared.open_handle.OpenHandle.{OpenHandle}
use Rattle.wasi_host.proofs.Chain.{free}
use Rattle.wasi_host.proofs.Leaving.{each_kind}
use Rattle.wasi_host.proofs.Refusals.{free_of}
use Rattle.wasi_host.proofs.ValidSteps.{CanLook, can_open, can_make_directory, can_make_link, can_add}
use Rattle.wasi_resolve.specs.EntryOps.{EntryOp, EntryAnswer, CreateDir, Symlink, call_at, answer_in, place_for, step_in}
use Rattle.wasi_resolve.specs.TwoPathOps.{HardLink, Places, places_for, asks_directory, answer_at_two, step_at_two}
use Rattle.wasi_resolve.specs.PathRequest.{AtEntry, AtTwo, Opened, answer_at, as_asked}
use Rattle.wasi_resolve.specs.Paths.{Opening, Place, opening, opening_of, step_of}
use Rattle.wasi_resolve.specs.Walk.{Open, Outcome, Stop, Name, Dot, walk}
use Rattle.wasi_resolve.proofs.Requests.{as_opened}
use Rattle.wasi_p1_model.specs.AppendOnly.{IsFree, Adds, nothing, make_file, make_directory, make_link, add_name, put_at_end}
use Rattle.wasi_p1_types.specs.Files.{keeps_append}
use Rattle.wasi_p1_types.specs.SpecParts.{permit}
use Rattle.wasi_p1_model.specs.Putting.{put_call, put_request}
use Rattle.wasi_p1_types.specs.RawFlags.{modes_under}
use Rattle.wasi_p1_types.specs.Request.{Path, Direct, reply_of, after}
use Rattle.wasi_p1_types.specs.declared.slots.FileModes.{FileModes}

-- ---- a path is opened

-- a name that can be looked up and is missing is free
missing_is_free : {t : Tree} {d : ℕ} {name : List ℕ} → CanLook t d name → child t d name ≡ None → IsFree t d name
missing_is_free looks missing = record { directory = looks.directory; free = missing }

-- an open of a name that doesn't truncate makes a file, or nothing
opened_adds : (t : Tree) (d : ℕ) (name : List ℕ) (o : Options) → refusal t (OpenAt d name o) ≡ None
    → o.truncate ≡ false → Adds t (open_step t d name o)
unfolding open_step
opened_adds t d name o none uncut = by (child t d name) refl
  where
    by : (found : Option ℕ) → child t d name ≡ found → Adds t (opened_step t d name o found)
    by None missing = make_file d name (missing_is_free (can_open t d name o none) missing) refl
    by (Some n) found =
        let stays = each_kind (λ c. is_cut o c ≡ false) (λ _ _. uncut) (λ _ _. refl) (λ _ _. refl) (node_at t n).content in
        nothing (ap (λ b. cond b (file_cut t n) t) stays)

-- an open that doesn't truncate makes a file, or nothing
pub open_adds : (t : Tree) (d : ℕ) (text : List ℕ) (how : OpenHow) {found : Opened} → how.truncate ≡ false
    → reply_of t (Path (opens d text how)) ≡ Ok found → Adds t (after t (Path (opens d text how)))
unfolding opening
open_adds t d text how {found} uncut answered = by (walk t d text (Open (options_of how)) how.follow).outcome answered
  where
    Answered : Result Opening ErrorCode → Type 0
    Answered m = (m >>= answer_at t >>= as_asked how.directory) ≡ Ok found

    ended : (e : Opening) → e.options.truncate ≡ false → Answered (Ok e) → Adds t (step_of t (Ok e))
    ended e uncut is =
        opened_adds t e.directory e.name e.options (free _ _ _ (as_opened how.directory (answer_at t e) is)) uncut

    dot : (e : Opening) → e.options.truncate ≡ false → (write : Bool) → Answered (cond write (Err IsDirectory) (Ok e))
        → Adds t (step_of t (cond write (Err IsDirectory) (Ok e)))
    dot e uncut true is = nothing refl
    dot e uncut false is = ended e uncut is

    by : (outcome : Outcome) → Answered (opening_of (options_of how) outcome)
        → Adds t (step_of t (opening_of (options_of how) outcome))
    by (Stop code) is = nothing refl
    by (Name d name slash) is = ended _ uncut is
    by (Dot d) is = dot _ uncut (options_of how).write is

-- ---- something is done at a place

-- what a call adds at each place where it is answered is added
place_adds : (t : Tree) (what : EntryOp) {reply : EntryAnswer what}
    → ((p : Place) → answer_in t what p ≡ Ok reply → Adds t (step t (call_at what p)))
    → (m : Result Place ErrorCode) → (m >>= answer_in t what) ≡ Ok reply → Adds t (step_in t what m)
place_adds t what adds (Ok p) is = adds p is
place_adds t what adds (Err code) is = nothing refl

-- a directory is made
pub directory_adds : (t : Tree) (d : ℕ) (text : List ℕ) {done : Unit {0}}
    → reply_of t (Path (AtEntry d text CreateDir)) ≡ Ok done → Adds t (after t (Path (AtEntry d text CreateDir)))
directory_adds t d text answered =
    place_adds t CreateDir (λ p is.
    let can = can_make_directory t p.directory p.name (free_of t (MakeDirAt p.directory p.name) is) in
    make_directory p.directory p.name (missing_is_free can.looks can.missing) refl)
    (place_for t d text CreateDir) answered

-- a link is made
pub link_adds : (t : Tree) (d : ℕ) (text target : List ℕ) {done : Unit {0}}
    → reply_of t (Path (AtEntry d text (Symlink target))) ≡ Ok done
    → Adds t (after t (Path (AtEntry d text (Symlink target))))
link_adds t d text target answered =
    place_adds t (Symlink target) (λ p is.
    let can = (can_make_link t p.directory p.name target (free_of t (SymlinkAt target p.directory p.name) is)).0 in
    make_link p.directory p.name target (missing_is_free can.looks can.missing) refl)
    (place_for t d text (Symlink target)) answered

-- a hard link of a name gives its node a further name
linked_adds : (t : Tree) (old new : ℕ) (old_name new_name : List ℕ) → refusal t (LinkAt old old_name new new_name) ≡ None
    → Adds t (link_step t old old_name new new_name)
unfolding link_step
linked_adds t old new old_name new_name none = by (child t old old_name) refl
  where
    by : (found : Option ℕ) → child t old old_name ≡ found → Adds t (added_step t new new_name found)
    by None missing = nothing refl
    by (Some n) found =
        let can = can_add t old new n old_name new_name none found in
        add_name new new_name n (missing_is_free can.looks can.missing) refl

-- a hard link
pub name_adds : (t : Tree) (old : ℕ) (old_text : List ℕ) (new : ℕ) (new_text : List ℕ) {done : Unit {0}}
    → reply_of t (Path (AtTwo old old_text new new_text HardLink)) ≡ Ok done
    → Adds t (after t (Path (AtTwo old old_text new new_text HardLink)))
name_adds t old old_text new new_text {done} answered = by (places_for t old old_text new new_text HardLink) answered
  where
    asks : Bool
    asks = asks_directory old_text new_text

    by : (m : Result Places ErrorCode) → (m >>= answer_at_two t HardLink asks) ≡ Ok done
        → Adds t (step_at_two t HardLink asks m)
    by (Ok p) is =
        linked_adds t p.old.directory p.new.directory p.old.name p.new.name (free _ _ _ is)
    by (Err code) is = nothing refl

-- ---- a piece is put

-- in append mode it is put at the end
pub call_adds : (append : Bool) (f : OpenHandle) (offset : ℕ) (piece : List ℕ) (t : Tree) → append ≡ true
    → Adds t (after t (Direct (put_call append f offset piece)))
call_adds true f offset piece t is = put_at_end f.node piece refl
call_adds false f offset piece t is = absurd (cc)

-- also where the file is looked at then
pub request_adds : (append : Bool) (f : OpenHandle) (offset : ℕ) (piece : List ℕ) (t : Tree) → append ≡ true
    → Adds t (after t (put_request append f offset piece))
request_adds true f offset piece t is = put_at_end f.node piece refl
request_adds false f offset piece t is = absurd (cc)

-- ---- what append-only permissions let through

-- an open, but one that doesn't truncate
pub append_only_open : (how : OpenHow) {perms : FsPerms} {u : Unit {0}} → permit (may_open how perms) ≡ Ok u
    → perms ≡ AppendOnly → how.truncate ≡ false
unfolding may_open
append_only_open how may is = grind (arith)

-- no altering
pub no_altering : (perms : FsPerms) {u : Unit {0}} → permit (may_do perms Alter) ≡ Ok u → perms ≡ AppendOnly → ⊥
unfolding may_do
no_altering AppendOnly may is = absurd (cc)
no_altering perms may is = absurd (cc)

-- nor that a name moves
pub no_moving : (old new : FsPerms) {u : Unit {0}} → permit (may_rename old new) ≡ Ok u → (old ≡ AppendOnly → ⊥)
unfolding may_rename
no_moving AppendOnly new may is = absurd (cc)
no_moving old new may is = absurd (cc)

-- permissions that don't differ are the same
same_perms : (old new : FsPerms) → differ old new ≡ false → new ≡ old
same_perms ReadOnly ReadOnly is = refl
same_perms AppendOnly AppendOnly is = refl
same_perms ReadWrite ReadWrite is = refl
same_perms old new is = absurd (cc)

-- a hard link is let through between directories under the same permissions
pub same_linked : (old new : FsPerms) (follow : Bool) {u : Unit {0}} → permit (may_add_name old new follow) ≡ Ok u
    → new ≡ old
unfolding may_add_name
same_linked old new follow may = same_perms old new (grind (arith))

-- and so is a rename
pub same_moved : (old new : FsPerms) {u : Unit {0}} → permit (may_rename old new) ≡ Ok u → new ≡ old
unfolding may_rename
same_moved old new may = same_perms old new (grind (arith))

-- a file that is appended to goes on to be, whatever its new modes
pub kept_appends : (perms : FsPerms) (modes : FileModes) {u : Unit {0}} → keeps_append perms modes ≡ Ok u
    → perms ≡ AppendOnly → modes.append ≡ true
unfolding keeps_append
kept_appends perms modes keeps is = grind (arith)

-- a file under append-only permissions is appended to
pub under_appends : (perms : FsPerms) (modes : FileModes) → perms ≡ AppendOnly → (modes_under perms modes).append ≡ true
under_appends perms modes is = grind (arith)
