-- What a descriptor's number names, as a view has it: the entry of its resource, and whose handles are whose.
use Rattle.std.proofs.Common.{ℕ, suc, zero, ◌<◌, ◌≤◌, ◌≡◌, ◌⊎◌, inl, inr, true, false, Option, Some, None, List, [], ◌∷◌, length, get_or, slice_get, option_map, Result, Ok, Err, refl, ap, sym, subst, ◌∙◌, arith}
use Rattle.std.proofs.lemmas.List.{get_or_past}
use Rattle.std.proofs.lemmas.Option.{slice_get-get_or}
use Rattle.std.proofs.lemmas.Result.{err_from_is_err_and}
use Rattle.std.specs.Prelude.{Bool, IfErr, IsErrAnd}
use Rattle.std.specs.FinMap.{get}
use Rattle.std.specs.FinSet.{contains}
use Rattle.wasi_fs.specs.Calls.{handle_of, syncs, NotMemory}
use Rattle.wasi_fs.specs.declared.descriptor.Descriptor.{Descriptor}
use Rattle.wasi_fs.specs.declared.descriptor.Descriptor.TheVariants as descriptors
use Rattle.wasi_host.specs.Provenance.{HasProvenance, Only, OneOf}
use Rattle.wasi_host.specs.declared.system_time.SystemTime.{SystemTime}
use Rattle.wasi_host.specs.HostLaws.{HostModel, Handles, FaultCount, HasCause}
use Rattle.wasi_host.specs.declared.errors.ErrorCode.{ErrorCode}
use Rattle.wasi_host.specs.declared.errors.ErrorCode.TheVariants as codes
use Rattle.wasi_host.specs.declared.errors.HostError.TheVariants as hosts
use Rattle.wasi_guest.specs.declared.answer.Value.{Value}
use Rattle.wasi_guest.specs.declared.call.Call.{Call}
use Rattle.wasi_host.specs.declared.errors.HostError.{HostError}
use Rattle.wasi_host.specs.declared.host.Host.{Ghosts}
use Rattle.wasi_host.specs.declared.lookup.Lookup.{Lookup}
use Rattle.wasi_host.proofs.Tracing.{traced_given}
use Rattle.wasi_streams.specs.Table.{Entries}
use Rattle.wasi_streams.specs.declared.entry.Entry.{Entry}
use Rattle.wasi_streams.specs.declared.entry.Entry.TheVariants as entries
use Rattle.wasi_p2_types.specs.ErrorCodes.{code_named}
use Rattle.wasi_p2_types.specs.FsErrors.{fs_error, FsCause}
use Rattle.wasi_p2_types.specs.Moments.{time_wanted}
use Rattle.wasi_p2_calls.specs.Nodes.{AboutFile, SyncsIt}
use Rattle.wasi_p2_calls.specs.Timed.{timed_by, with_wanted, TimesWanted}
use Rattle.wasi_p2_types.specs.declared.times.NewTimestamp.{NewTimestamp}
use Rattle.wasi_fs.specs.declared.descriptor.Dir.{Dir}
use Rattle.wasi_fs.specs.declared.descriptor.File.{File as OpenedFile}
use Rattle.wasi_streams.specs.Found.{descriptor_found}
use Rattle.wasi_p2_calls.specs.Resources.{as_directory_of, as_file_or, as_opened, both_found, directory_at, file_at, descriptor_at, AreOwned, HasIt, Holder, OneHasIt, entry_handle, handle_held, preopened, tabled}
use Rattle.wasi_p2_calls.specs.Views.{CallsOn, Files, Passes, Performs, tree_in}
use Rattle.wasi_p2_calls.specs.declared.context.Preopen.{Preopen}
use Rattle.wasi_p2_types.specs.declared.error.FsError.{FsError}
use Rattle.wasi_p2_types.specs.declared.error_code.ErrorCode.TheVariants.{BadDescriptor}
use Rattle.wasi_p1_model.specs.CallTransition.{FollowsSpec}
use Rattle.wasi_p1_state.specs.Descriptors.{AreKept, SlotTable}
use Rattle.wasi_p1_types.specs.Errnos.{errno_of, error_of}
use Rattle.wasi_p1_state.specs.Held.{HoldsHandles}
use Rattle.wasi_p1_types.specs.Items.{resource_in, slot_in, slots_of, directory_of_entry, file_of_entry, stream_entry, is_closed_item, IsOfKind, NamesResource, AreNamed}
use Rattle.wasi_p1_model.specs.Owners.{handle_in, handles, Owned}
use Rattle.wasi_p1_types.specs.Slots.{descriptor_in, View}
use Rattle.wasi_p1_types.specs.ViewErrors.{errno_named, view_error_of}
use Rattle.wasi_p1_state.specs.Viewed.{descriptor_under, Lowered}
use Rattle.wasi_p1_types.specs.declared.slots.Slot.{Slot}
use Rattle.wasi_p1_types.specs.declared.slots.Slot.TheVariants as slots
use Rattle.wasi_p1_types.specs.declared.slots.Stream.{Stream as StandardStream}
use Rattle.wasi_p1_types.specs.declared.slots.Stream.TheVariants as streams
use Rattle.wasi_p1_types.specs.declared.error.P1Error.{P1Error}
use Rattle.wasi_p1_types.specs.declared.error.P1Error.TheVariants.{Errno as ByNumber}
use Rattle.wasi_p1_types.specs.declared.items.Item.{Item}
use Rattle.wasi_p1_types.specs.declared.items.Item.TheVariants.{Closed, Stream, Directory, File}
use Rattle.wasi_p1_model.proofs.Counting.{handle_at}
use Rattle.wasi_p1_state.proofs.Naming.{slots_get, one}
use Rattle.wasi_p1_model.proofs.Owning.{owned_apart}
use Rattle.wasi_p1_model.proofs.Taking.{on_err}

-- the value of descriptors
abbrev pub shown_by : Entries → List Item → ℕ → ℕ → SlotTable
shown_by table items room max = record { slots = slots_of table items; room = room; max = max }

-- ---- the descriptor of a number is the entry of its resource

descriptor_of_item : (table : Entries) (items : List Item) (i : ℕ)
    → descriptor_under (slice_get (slots_of table items) i) ≡ descriptor_in (slot_in table (get_or items i Closed))
unfolding slots_of
descriptor_of_item table [] i = refl
descriptor_of_item table (item ∷ items) zero = refl
descriptor_of_item table (item ∷ items) (suc i) = descriptor_of_item table items i

-- a number that isn't closed was given
pub given_open : (items : List Item) (i : ℕ) → is_closed_item (get_or items i Closed) ≡ false → i < length items
given_open [] i is = absurd (cc)
given_open (item ∷ items) zero is = omega arith
given_open (item ∷ items) (suc i) is = let rest = given_open items i is in omega (arith, rest)

open_item : {d : Descriptor} (table : Entries) (item : Item) → descriptor_in (slot_in table item) ≡ Some d
    → is_closed_item item ≡ false
open_item table Closed is = absurd (cc)
open_item table (Stream s r) is = refl
open_item table (Directory r preopen) is = refl
open_item table (File r position modes) is = refl

-- the entry of a descriptor's resource
entry_of_item : {d : Descriptor} (table : Entries) (item : Item) (r : ℕ) → IsOfKind table item
    → descriptor_in (slot_in table item) ≡ Some d → resource_in item ≡ Some r → get table r ≡ Some (entries.Descriptor d)
entry_of_item table Closed r kind is names = absurd (cc)
entry_of_item table (Stream s n) r kind is names = absurd (cc)
entry_of_item {d} table (Directory n preopen) r (dir, kind) is names =
    let same : descriptors.Dir dir ≡ d =
    (let shown = sym (ap (λ o. descriptor_in (directory_of_entry o preopen)) kind) ∙ is in cc) in
    ap (get table) (sym (one names)) ∙ kind ∙ ap (λ x. Some (entries.Descriptor x)) same
entry_of_item {d} table (File n position modes) r (f, kind) is names =
    let same : descriptors.File f ≡ d =
    (let shown = sym (ap (λ o. descriptor_in (file_of_entry o position modes)) kind) ∙ is in cc) in
    ap (get table) (sym (one names)) ∙ kind ∙ ap (λ x. Some (entries.Descriptor x)) same

-- what a part is given of the descriptors, whose value this is
module _ {heap : List ℕ} {capacity : ℕ} {items : List Item} {table : Entries} {room max : ℕ} {view : SlotTable}
    {d : Descriptor} (i : ℕ) (kept : AreKept heap capacity items table)
    (is : shown_by table items room max ≡ view)
    (stands : descriptor_under (slice_get view.slots i) ≡ Some d) where
  below : descriptor_in (slot_in table (get_or items i Closed)) ≡ Some d
  below = sym (descriptor_of_item table items i) ∙ ap (λ (t : SlotTable). descriptor_under (slice_get t.slots i)) is ∙ stands

  pub open_under : is_closed_item (get_or items i Closed) ≡ false
  open_under = open_item table (get_or items i Closed) below

  pub entry_under : (r : ℕ) → NamesResource items i r → get table r ≡ Some (entries.Descriptor d)
  entry_under r names = entry_of_item table (get_or items i Closed) r (kept.named.kinds i) below names

-- ---- each entry has a live handle of its own, as each descriptor has

module _ {table : Entries} {items : List Item} (named : AreNamed table items) where
  -- a number that names something was given
  given : (i r : ℕ) → NamesResource items i r → i < length items
  given i r names = by (grind arith)
    where
      by : (i < length items) ⊎ (length items ≤ i) → i < length items
      by (inl within) = within
      by (inr past) = absurd (let wrong : ◌≡◌ {A = Option ℕ} None (Some r) =
          sym (ap resource_in (get_or_past items i Closed past)) ∙ names in cc)

  -- the handle of an entry is that of the descriptor which names it
  same_handle : (item : Item) (n h : ℕ) → resource_in item ≡ Some n → IsOfKind table item → HasIt table n h
      → handle_in (slot_in table item) ≡ Some h
  same_handle Closed n h names kind has = absurd (cc)
  same_handle (Stream s r) n h names kind has =
      absurd (none s (sym (ap entry_handle (ap (get table) (sym (one names)) ∙ kind)) ∙ has))
    where
      none : (s : StandardStream) → entry_handle (Some (stream_entry s)) ≡ Some h → ⊥
      none streams.Input is = absurd (cc)
      none streams.Output is = absurd (cc)
      none streams.Error is = absurd (cc)
  same_handle (Directory r preopen) n h names (dir, kind) has =
      ap (λ o. handle_in (directory_of_entry o preopen)) kind
      ∙ sym (ap entry_handle (ap (get table) (sym (one names)) ∙ kind)) ∙ has
  same_handle (File r position modes) n h names (f, kind) has =
      ap (λ o. handle_in (file_of_entry o position modes)) kind
      ∙ sym (ap entry_handle (ap (get table) (sym (one names)) ∙ kind)) ∙ has

  entry_there : (n h : ℕ) → HasIt table n h → (e : Entry) × (get table n ≡ Some e)
  entry_there n h has = by (get table n) refl has
    where
      by : (o : Option Entry) → get table n ≡ o → entry_handle o ≡ Some h → (e : Entry) × (get table n ≡ Some e)
      by None is none = absurd (cc)
      by (Some e) is some = (e, is)

  placed : (n h : ℕ) → HasIt table n h
      → (i : ℕ) × (slice_get (handles (slots_of table items)) i ≡ Some (Some h)) × NamesResource items i n
  placed n h has =
      let entry = entry_there n h has in
      let at = named.all n entry.0 entry.1 in
      let slot = slots_get table items at.0
      ∙ ap (option_map (slot_in table)) (slice_get-get_or items at.0 Closed (given at.0 n at.1)) in (
        at.0,
        handle_at (slots_of table items) at.0 slot ∙ ap Some (same_handle _ n h at.1 (named.kinds at.0) has),
        at.1,
      )

  none_given : (i h : ℕ) → handle_held [] table (preopened i) ≡ Some h → ⊥
  none_given i h has = absurd (cc)

  entries_owned : {live : Handles} → Owned live (handles (slots_of table items)) → AreOwned live [] table
  entries_owned {live} owned = record { lives = lives; apart = apart }
    where
      lives : (p : Holder) (h : ℕ) → handle_held [] table p ≡ Some h → contains live h ≡ true
      lives (preopened i) h has = absurd (none_given i h has)
      lives (tabled n) h has = let at = placed n h has in (owned_apart owned at.0 at.0 h at.1 at.1).0

      apart : (p q : Holder) (h : ℕ) → handle_held [] table p ≡ Some h → handle_held [] table q ≡ Some h → p ≡ q
      apart (preopened i) q h has has' = absurd (none_given i h has)
      apart (tabled m) (preopened i) h has has' = absurd (none_given i h has')
      apart (tabled m) (tabled n) h has has' =
          let here = placed m h has in
          let there = placed n h has' in
          let same = (owned_apart owned here.0 there.0 h here.1 there.1).1 in
          ap tabled (one (sym here.2 ∙ ap (λ i. resource_in (get_or items i Closed)) same ∙ there.2))

-- what a view requires, from what a context keeps
pub kept_owned : {heap : List ℕ} {capacity : ℕ} {items : List Item} {table : Entries} {room max : ℕ} {view : SlotTable}
    {live : Handles} {preopens : List Preopen} → AreKept heap capacity items table
    → shown_by table items room max ≡ view → HoldsHandles live (handles view.slots) preopens
    → AreOwned live preopens table
kept_owned {items = items} {table = table} {live = live} kept is holds =
    subst (λ (ps : List Preopen). AreOwned live ps table) (sym holds.none)
    (entries_owned kept.named (subst (λ (t : SlotTable). Owned live (handles t.slots)) (sym is) holds.owned))

-- the handle of what a number stands for is live
pub stands_live : {live : Handles} {d : Descriptor} {preopens : List Preopen} (xs : List Slot) (i : ℕ)
    → HoldsHandles live (handles xs) preopens → descriptor_under (slice_get xs i) ≡ Some d
    → contains live (handle_of d) ≡ true
stands_live {live} {d} xs i holds is = by (slice_get xs i) refl is
  where
    at : (slot : Slot) → slice_get xs i ≡ Some slot → handle_in slot ≡ Some (handle_of d)
        → contains live (handle_of d) ≡ true
    at slot there has = let held = handle_at xs i there ∙ ap Some has in (owned_apart holds.owned i i (handle_of d) held held).0

    by : (o : Option Slot) → slice_get xs i ≡ o → descriptor_under o ≡ Some d → contains live (handle_of d) ≡ true
    by None there is = absurd (cc)
    by (Some slots.Closed) there is = absurd (cc)
    by (Some (slots.Stream s)) there is = absurd (cc)
    by (Some (slots.Directory e)) there is =
        let same : descriptors.Dir e.dir ≡ d = cc in at (slots.Directory e) there (ap (λ x. Some (handle_of x)) same)
    by (Some (slots.File f)) there is =
        let same : descriptors.File f.file ≡ d = cc in at (slots.File f) there (ap (λ x. Some (handle_of x)) same)

-- ---- what a call of a view does, of the descriptor that its resource stands for

-- what is found of it
pub directory_stands : {dir : Dir} (table : Entries) (n : ℕ)
    → get table n ≡ Some (entries.Descriptor (descriptors.Dir dir)) → directory_at table n ≡ Ok dir
directory_stands table n is = ap (λ o. as_directory_of (descriptor_found o)) is

pub file_stands : {file : OpenedFile} (table : Entries) (n : ℕ)
    → get table n ≡ Some (entries.Descriptor (descriptors.File file)) → file_at table n ≡ Ok file
file_stands table n is = ap (λ o. as_file_or BadDescriptor (descriptor_found o)) is

pub descriptor_stands : {d : Descriptor} (table : Entries) (n : ℕ) → get table n ≡ Some (entries.Descriptor d)
    → descriptor_at table n ≡ Ok d
descriptor_stands table n is = ap (λ o. as_opened (descriptor_found o)) is

pub directories_stand : {dir dir' : Dir} (table : Entries) (m n : ℕ)
    → get table m ≡ Some (entries.Descriptor (descriptors.Dir dir))
    → get table n ≡ Some (entries.Descriptor (descriptors.Dir dir'))
    → both_found (directory_at table m) (directory_at table n) ≡ Ok (dir, dir')
directories_stand {dir} {dir'} table m n first second =
    ap (λ o. both_found o (directory_at table n)) (directory_stands table m first)
    ∙ ap (λ o. both_found (let found : Result Dir FsError = Ok dir in found) o) (directory_stands table n second)

-- lookups that begin from it
pub traced_only : {d : Descriptor} {Kept Kept' : ℕ → Type 0} {old new : List Lookup} (table : Entries) (n : ℕ)
    → get table n ≡ Some (entries.Descriptor d) → HasProvenance (HasIt table n) Kept Kept' old new
    → HasProvenance (Only (handle_of d)) Kept Kept' old new
traced_only {d = d} table n is traced =
    traced_given (Only (handle_of d)) (λ q has. one (sym (sym (ap entry_handle is) ∙ has))) traced

-- the lower call was made of it
pub lowered : {X A B : Type 0} {found : Result X FsError} {result : Result B FsError} (same : Type 0) (shown : A → B)
    (Did : X → Result A HostError → Type 0) (x : X) → found ≡ Ok x
    → Passes found same shown Did result → Lowered shown (Did x) result
lowered {result = result} same shown Did x is passes =
    subst (λ o. Passes o same shown Did result) is passes

-- the same, of a file, of which no name is looked up
pub of_file : {H : Type 0} {host : Ghosts H} {old new : Files H} {result : Result (Unit {0}) FsError}
    {Did : OpenedFile → Result (Unit {0}) HostError → Type 0} (n : ℕ) → AboutFile host old new n Did result
    → (file : OpenedFile) → get old.table.entries n ≡ Some (entries.Descriptor (descriptors.File file))
    → (host.lookups new.ctx.host ≡ host.lookups old.ctx.host) × Lowered (λ unit. unit) (Did file) result
of_file {old = old} n call file is =
    (call.looks, lowered _ _ _ file (file_stands old.table.entries n is) call.did)

-- a file isn't opened anew to be stored
pub stored_file : {H : Type 0} {host : Ghosts H} {old new : Files H} {result : Result (Unit {0}) FsError} (n : ℕ)
    → SyncsIt host old new n result
    → (file : OpenedFile) → get old.table.entries n ≡ Some (entries.Descriptor (descriptors.File file))
    → (host.lookups new.ctx.host ≡ host.lookups old.ctx.host) × Lowered (λ unit. unit) (λ answer. IfErr answer NotMemory
    × Performs host old.ctx.host new.ctx.host None
    (syncs (tree_in host old) (host.model old.ctx.host).held (descriptors.File file)) (λ unit. unit) answer) result
stored_file {old = old} n call file is =
    let (answer, shown, (never, logged, performs)) =
    lowered _ _ _ (descriptors.File file) (descriptor_stands old.table.entries n is) call.did in
    (logged, (answer, shown, (never, performs)))

-- a call that sets times which can be set is one of what is found
pub timed : {H X A B : Type 0} {host : Ghosts H} {old new : Files H} {Looks : List Lookup → List Lookup → Type 0}
    {shown : A → B} {Did : X × TimesWanted → Result A HostError → Type 0} {result : Result B FsError}
    {atime mtime : Option SystemTime} (found : Result X FsError) (atim mtim : NewTimestamp)
    → time_wanted old.ctx.now atim ≡ Ok atime → time_wanted old.ctx.now mtim ≡ Ok mtime
    → CallsOn host old new Looks (timed_by found old.ctx.now atim mtim) shown Did result
    → CallsOn host old new Looks found shown (λ x. Did (x, (atime, mtime))) result
timed (Err e) atim mtim first second call = record { asks = call.asks; looks = call.looks; did = call.did }
timed {old = old} {atime = atime} {mtime = mtime} (Ok x) atim mtim first second call = record {
  asks = call.asks;
  looks = call.looks;
  did = lowered _ _ _ (x, (atime, mtime)) (ap (λ o. with_wanted x o (time_wanted old.ctx.now mtim)) first
      ∙ ap (with_wanted x (Ok atime)) second) call.did;
}

-- lookups that begin from one of two
pub traced_either : {g h : ℕ} {Kept Kept' : ℕ → Type 0} {old new : List Lookup} (table : Entries) (m n : ℕ)
    → entry_handle (get table m) ≡ Some g → entry_handle (get table n) ≡ Some h
    → HasProvenance (OneHasIt table m n) Kept Kept' old new → HasProvenance (OneOf g h) Kept Kept' old new
traced_either {g} {h} table m n first second traced = traced_given (OneOf g h) (λ q is. elim is [
  | inl has ↦ inl (one (sym has ∙ first))
  | inr has ↦ inr (one (sym has ∙ second))
]) traced

-- ---- what the lower call's answer was

-- a refusal of the lower call, which has its cause
pub record LowerRefusal {A : Type 0} (before now : FaultCount) (Did : Result A HostError → Type 0) (e : FsError) : Type 0
  where
    pub error : HostError
    pub same : e ≡ fs_error error
    pub cause : HasCause {A = A} before now (Err error)
    pub did : Did (Err error)

pub lowered_err : {A B : Type 0} {shown : A → B} {before now : FaultCount} {e : FsError}
    (Did : Result A HostError → Type 0) → FsCause {A = B} before now (Err e) → Lowered shown Did (Err e)
    → LowerRefusal before now Did e
lowered_err Did cause (Ok x, is, did) = absurd (cc)
lowered_err {A} {B} {before = before} {now = now} {e = e} Did cause (Err error, is, did) = record {
  error = error;
  same = same;
  cause = record {
    later = cause.later;
    most = cause.most;
    io = λ io. cause.io (ap (λ x. let r : Result B FsError = Err x in r) (same ∙ ap fs_error (why io)));
  };
  did = did;
}
  where
    same : e ≡ fs_error error
    same = cc

    why : {f : HostError} → (let r : Result A HostError = Err error in r) ≡ Err f → error ≡ f
    why is = cc

-- what is made of several calls is refused as one of them, as the exit of a `?` gives it
pub lowered_again : {A B C : Type 0} {shown : A → B} {before now : FaultCount} {Did : Result C HostError → Type 0}
    {Did' : Result A HostError → Type 0} {e : FsError} {result : Result B FsError}
    (lower : LowerRefusal before now Did e) → IsErrAnd result (λ f. f ≡ e) → Did' (Err lower.error)
    → Lowered shown Did' result
lowered_again {result = result} lower is did =
    let error = err_from_is_err_and result is in rw (error.1, error.2) (Err lower.error, ap Err lower.same, did)

-- an answer that is shown as it is
pub lowered_ok : {A : Type 0} {a : A} (Did : Result A HostError → Type 0) → Lowered (λ (x : A). x) Did (Ok a) → Did (Ok a)
lowered_ok {A} {a} Did (Ok x, is, did) =
    let same : x ≡ a = cc in subst (λ (y : A). Did (Ok y)) same did
lowered_ok Did (Err error, is, did) = absurd (cc)

-- the same, of an answer that is shown otherwise
pub lowered_shown : {A B : Type 0} {shown : A → B} {b : B} (Did : Result A HostError → Type 0) → Lowered shown Did (Ok b)
    → (a : A) × (b ≡ shown a) × Did (Ok a)
lowered_shown Did (Ok a, is, did) = (a, (cc), did)
lowered_shown Did (Err error, is, did) = absurd (cc)

-- a code of the crates below becomes the same error number through preview2's
named_twice : (code : ErrorCode) → errno_named (code_named code) ≡ errno_of code
named_twice codes.Access = refl
named_twice codes.Already = refl
named_twice codes.BadDescriptor = refl
named_twice codes.Busy = refl
named_twice codes.Exist = refl
named_twice codes.FileTooLarge = refl
named_twice codes.IllegalByteSequence = refl
named_twice codes.InProgress = refl
named_twice codes.Interrupted = refl
named_twice codes.Invalid = refl
named_twice codes.Io = refl
named_twice codes.IsDirectory = refl
named_twice codes.Loop = refl
named_twice codes.TooManyLinks = refl
named_twice codes.NameTooLong = refl
named_twice codes.NoEntry = refl
named_twice codes.InsufficientMemory = refl
named_twice codes.InsufficientSpace = refl
named_twice codes.NotDirectory = refl
named_twice codes.NotEmpty = refl
named_twice codes.Unsupported = refl
named_twice codes.Overflow = refl
named_twice codes.NotPermitted = refl
named_twice codes.Pipe = refl
named_twice codes.InvalidSeek = refl

pub same_error : (e : HostError) → view_error_of (fs_error e) ≡ error_of e
same_error hosts.Memory = refl
same_error (hosts.Code code) = ap ByNumber (named_twice code)

-- a refusal by the lower one's error, as the exit of a `?` gives it
pub on_refusal : {A H : Type 0} {modelled : Bool} {model : H → HostModel} {faults : H → FaultCount} {lookups : H → List Lookup}
    {old new : View H} {before after : List ℕ} {call : Call} {first last : FaultCount}
    {Did : Result A HostError → Type 0} {e : FsError} {result : Result Value P1Error} (lower : LowerRefusal first last Did e)
    → IsErrAnd result (λ f. f ≡ view_error_of e)
    → FollowsSpec modelled model faults lookups old new before after call (Err (error_of lower.error))
    → FollowsSpec modelled model faults lookups old new before after call result
on_refusal {result = result} lower is follows =
    on_err (subst (λ (x : P1Error). IsErrAnd result (λ f. f ≡ x)) (ap view_error_of lower.same ∙ same_error lower.error) is)
    follows

-- what a call was refused with
pub refusal_is : {A B : Type 0} {before now : FaultCount} {Did : Result A HostError → Type 0} {e : FsError}
    {result : Result B P1Error} (lower : LowerRefusal before now Did e) → IsErrAnd result (λ f. f ≡ view_error_of e)
    → result ≡ Err (error_of lower.error)
refusal_is {result = result} lower is =
    let error = err_from_is_err_and result is in
    error.1 ∙ ap Err (error.2 ∙ ap view_error_of lower.same ∙ same_error lower.error)
