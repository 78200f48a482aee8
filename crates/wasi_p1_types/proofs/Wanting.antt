-- No part of a specification is refused because memory ran out, nor by an error number that no call is answered.
use Rattle.std.proofs.Common.{refl, ◌≡◌, ◌+◌, ◌*◌, ◌/◌, ◌^◌, ◌%◌, take, [], ◌∷◌, nat_lt, nat_le, length, ℕ, true, false, cond, Bool, List, Option, Some, None, Ok, Err}
use Rattle.std.specs.Prelude.{◌==◌, not, ◌&&◌, ◌||◌, ℤ, pos, negsuc, ◌+ℤ◌, IfErr, IfSome, IsTrue}
use Rattle.wasi_fs.specs.Calls.{may_do, may_link, may_add_name, may_rename}
use Rattle.wasi_fs.specs.OpenHow.{OpenHow, may_open, open_rules}
use Rattle.wasi_fs.specs.Perms.{permits, is_read_only, is_append_only, differ}
use Rattle.wasi_fs.specs.declared.perms.Act.{Act}
use Rattle.wasi_fs.specs.declared.perms.Act.TheVariants.{Make, Alter}
use Rattle.wasi_fs.specs.declared.perms.FsPerms.{FsPerms}
use Rattle.wasi_guest.specs.Flags as flag
use Rattle.wasi_guest.specs.Flags.{has, flags_in, known_lookupflags, known_oflags, known_fdflags, known_fstflags, known_rights}
use Rattle.wasi_guest.specs.Records.{Found}
use Rattle.wasi_guest.specs.declared.guest_error.GuestError.{GuestError}
use Rattle.wasi_guest.specs.declared.guest_error.GuestError.TheVariants as guests
use Rattle.wasi_guest.specs.Range.{in_memory}
use Rattle.wasi_host.specs.Steps.{◌>>=◌}
use Rattle.wasi_host.specs.declared.errors.ErrorCode.{ErrorCode}
use Rattle.wasi_host.specs.declared.errors.ErrorCode.TheVariants.{Invalid, NotPermitted}
use Rattle.wasi_paths.specs.Parts.{has_root}
use Rattle.wasi_guest.specs.declared.errno.Errno.{Errno as ErrorNumber}
use Rattle.wasi_guest.specs.declared.errno.Errno.TheVariants as errnos
use Rattle.wasi_p1_types.specs.CallParts.{WantsNoMemory, is_failure}
use Rattle.wasi_p1_types.specs.Files.{file_in, keeps_append, name_into, name_within, not_synchronized, or_refused, position_from, position_of, read_place_in}
use Rattle.wasi_fs.specs.declared.descriptor_stat.Datetime.{Datetime}
use Rattle.wasi_p1_types.specs.Filestats.{filestat_in, nanoseconds_in, or_overflow}
use Rattle.wasi_p1_types.specs.declared.looked.StatBoth.{StatBoth}
use Rattle.wasi_p1_types.specs.Guest.{GuestSlot, stream, directory, file, is_closed}
use Rattle.wasi_p1_types.specs.Numbering.{live_count}
use Rattle.wasi_p1_types.specs.NewTimes.{time_of, new_time, times_asked}
use Rattle.wasi_p1_types.specs.RawFlags.{or_inval, open_how, follow_asked}
use Rattle.wasi_p1_types.specs.CallResult.{CallResult}
use Rattle.wasi_p1_types.specs.SpecParts.{live_in, directory_in, start_in, read_target_in, write_target_in, open_node_in, range, may_write, room_for, permit, guest_fault, from_guest}
use Rattle.wasi_p1_types.specs.declared.error.P1Error.{P1Error}
use Rattle.wasi_guest.specs.Enums.{clockid_of, is_signal}
use Rattle.wasi_guest.specs.declared.enums.Clockid.{Clockid}
use Rattle.wasi_guest.specs.declared.enums.Clockid.TheVariants as clocks
use Rattle.wasi_guest.specs.declared.guest_env.WallDatetime.{WallDatetime}
use Rattle.wasi_guest.specs.declared.answer.TrapKind.TheVariants.{ExitStatus}
use Rattle.wasi_p1_types.specs.declared.slots.Stream.TheVariants as streams
use Rattle.wasi_guest.specs.declared.iovec.Iovec.{Iovec}
use Rattle.wasi_p1_types.specs.Services.{next_input, input_into, fits_32, total_of, sizes_of, aligned, put_texts, texts_at, moment_of, clock_res, clock_time, exit_with, known_signal}
use Rattle.wasi_p1_types.specs.GuestEnvModel.{GuestEnvModel}
use Rattle.wasi_p1_types.specs.declared.error.P1Error.TheVariants.{Errno, Trap, Exit, Memory}
use Rattle.wasi_p1_types.specs.declared.usage.FileUse.{FileUse}
use Rattle.wasi_p1_types.specs.declared.usage.FileUse.TheVariants.{Itself, Position, ReadAt, WriteAt}
use Rattle.wasi_p1_types.specs.ErrorNumbers.{may_be_answered}
use Rattle.wasi_p1_types.proofs.Codes.{IsKnown, first_known}
use Rattle.wasi_p1_types.specs.declared.slots.FileModes.{FileModes}

-- what a specification refuses with: an error number that a call may be answered, a trap, or the guest's own end
abbrev pub IsRefusal : P1Error → Type 0
IsRefusal (Errno e) = IsTrue (may_be_answered e)
IsRefusal (Trap kind) = Unit {0}
IsRefusal (Exit status) = Unit {0}
IsRefusal Memory = ⊥

-- and so it never wants memory
pub wants_none : (e : P1Error) → IsRefusal e → WantsNoMemory e
wants_none Memory wrong is = wrong
wants_none e refuses is = absurd (cc)

-- nothing else refuses
abbrev pub Never : {A : Type 0} → CallResult A → Type 0
Never m = IfErr m IsRefusal

pub after : {A B : Type 0} (m : CallResult A) (next : A → CallResult B) → Never m → ((x : A) → Never (next x)) → Never (m >>= next)
after (Ok x) next first then = then x
after (Err e) next first then = first

pub when : {A : Type 0} (b : Bool) (x : A) (e : P1Error) → IsRefusal e → Never (cond b (Ok x) (Err e))
when true x e other = tt
when false x e other = other

pub range_never : (memory : List ℕ) (at n : ℕ) → Never (range memory at n)
range_never memory at n = when (in_memory memory at n) _ _ tt

-- nor is one the failure of a host, where something isn't read from memory
pub fault_never : (e : GuestError) → is_failure (guest_fault e) ≡ false
fault_never guests.PtrOverflow = refl
fault_never e = refl

pub guest_never : {A : Type 0} (found : Found A) → Never (from_guest found)
guest_never (Ok x) = tt
guest_never (Err guests.InvalidUtf8) = refl
guest_never (Err guests.InvalidFlagValue) = refl
guest_never (Err guests.InvalidEnumValue) = refl
guest_never (Err e) = tt

pub inval_never : {A : Type 0} (o : Option A) → Never (or_inval o)
inval_never (Some x) = tt
inval_never None = refl

pub how_never : (dirflags oflags base inheriting fdflags : ℕ) → Never (open_how dirflags oflags base inheriting fdflags)
unfolding open_how
how_never dirflags oflags base inheriting fdflags =
    after (or_inval (flags_in known_lookupflags dirflags)) _ (inval_never _) (λ _.
    after (or_inval (flags_in known_oflags oflags)) _ (inval_never _) (λ flags.
    after (or_inval (flags_in known_rights base)) _ (inval_never _) (λ rights.
    after (or_inval (flags_in known_rights inheriting)) _ (inval_never _) (λ _.
    after (or_inval (flags_in known_fdflags fdflags)) _ (inval_never _) (λ modes. tt)))))

pub permit_never : (own : Option ErrorCode) → IfSome own IsKnown → Never (permit own)
permit_never None known = tt
permit_never (Some code) known = known

-- what isn't permitted is refused so
pub open_known : (how : OpenHow) (perms : FsPerms) → IfSome (may_open how perms) IsKnown
unfolding may_open
open_known how perms = first_known (open_rules how perms) refl

pub act_known : (perms : FsPerms) (act : Act) → IfSome (may_do perms act) IsKnown
unfolding may_do
act_known perms act = first_known ((not (permits perms act), NotPermitted) ∷ []) refl

pub link_known : (perms : FsPerms) (target : List ℕ) → IfSome (may_link perms target) IsKnown
unfolding may_link
link_known perms target =
    first_known ((not (permits perms Make), NotPermitted) ∷ (has_root target, NotPermitted) ∷ []) refl

pub add_name_known : (old new : FsPerms) (follow : Bool) → IfSome (may_add_name old new follow) IsKnown
unfolding may_add_name
add_name_known old new follow = first_known ((not (permits old Make), NotPermitted)
    ∷ (not (permits new Make), NotPermitted) ∷ (follow, Invalid) ∷ (differ old new, NotPermitted) ∷ []) refl

pub rename_known : (old new : FsPerms) → IfSome (may_rename old new) IsKnown
unfolding may_rename
rename_known old new = first_known ((not (permits old Alter), NotPermitted) ∷ (not (permits new Alter), NotPermitted)
    ∷ (differ old new, NotPermitted) ∷ []) refl

pub follow_never : (flags : ℕ) → Never (follow_asked flags)
unfolding follow_asked
follow_never flags = after (or_inval (flags_in known_lookupflags flags)) _ (inval_never _) (λ set. tt)

pub write_never : (perms : FsPerms) → Never (may_write perms)
unfolding may_write
write_never perms = by (is_read_only perms)
  where
    by : (b : Bool) → Never (let m : CallResult (Unit {0}) = cond b (Err (Errno errnos.Badf)) (Ok tt) in m)
    by true = refl
    by false = tt

pub room_never : (slots : List GuestSlot) (table_max more : ℕ) → Never (room_for slots table_max more)
unfolding room_for
room_never slots table_max more = when (nat_le (live_count is_closed slots + more) table_max) _ _ tt

pub live_never : (p : Option GuestSlot) → Never (live_in p)
live_never (Some (directory d)) = tt
live_never (Some (file f)) = tt
live_never (Some (stream s)) = tt
live_never p = refl

pub directory_never : (p : Option GuestSlot) → Never (directory_in p)
directory_never (Some (directory d)) = tt
directory_never p = refl

pub start_never : (p : Option GuestSlot) → Never (start_in p)
start_never (Some (directory d)) = tt
start_never p = refl

pub node_never : (p : Option GuestSlot) → Never (open_node_in p)
node_never (Some (directory d)) = tt
node_never (Some (file f)) = tt
node_never p = refl

time_never : (wall : WallDatetime) (n : ℕ) (set now : Bool) → Never (new_time wall n set now)
time_never wall n true true = refl
time_never wall n true false = tt
time_never wall n false true =
    after (time_of wall) _ (when (nat_lt (wall.seconds + wall.nanoseconds / 10 ^ 9) (2 ^ 63)) _ _ refl) (λ now. tt)
time_never wall n false false = tt

pub times_never : (wall : WallDatetime) (atim mtim fst_flags : ℕ) → Never (times_asked wall atim mtim fst_flags)
unfolding times_asked
times_never wall atim mtim fst_flags =
    after (or_inval (flags_in known_fstflags fst_flags)) _ (inval_never _) (λ set.
    after (new_time wall atim (has set flag.atim) (has set flag.atim_now)) _ (time_never wall atim _ _) (λ atime.
    after (new_time wall mtim (has set flag.mtim) (has set flag.mtim_now)) _ (time_never wall mtim _ _) (λ mtime. tt)))

pub source_never : (p : Option GuestSlot) → Never (read_target_in p)
source_never (Some (file f)) = tt
source_never (Some (stream streams.Input)) = tt
source_never p = refl

pub sink_never : (p : Option GuestSlot) → Never (write_target_in p)
sink_never (Some (file f)) = tt
sink_never (Some (stream streams.Output)) = tt
sink_never (Some (stream streams.Error)) = tt
sink_never p = refl

-- what is told of a node
overflow_never : (n : ℕ) → Never (or_overflow n)
overflow_never n = when (nat_lt n (2 ^ 64)) _ _ refl

moment_in_never : (o : Option Datetime) → Never (nanoseconds_in o)
moment_in_never (Some moment) = overflow_never _
moment_in_never None = tt

pub filestat_never : (both : StatBoth) → Never (filestat_in both)
unfolding filestat_in
filestat_never both = after (nanoseconds_in both.stat.data_access_timestamp) _
    (moment_in_never both.stat.data_access_timestamp) (λ _.
    after (nanoseconds_in both.stat.data_modification_timestamp) _
    (moment_in_never both.stat.data_modification_timestamp) (λ _.
    after (nanoseconds_in both.stat.status_change_timestamp) _
    (moment_in_never both.stat.status_change_timestamp) (λ _. tt)))

-- ---- files and preopens

pub file_never : (wanted : FileUse) (p : Option GuestSlot) → Never (file_in wanted p)
file_never wanted (Some (file f)) = tt
file_never Itself (Some (stream s)) = refl
file_never Position (Some (stream s)) = refl
file_never ReadAt (Some (stream streams.Input)) = refl
file_never ReadAt (Some (stream s)) = refl
file_never WriteAt (Some (stream streams.Input)) = refl
file_never WriteAt (Some (stream s)) = refl
file_never wanted p = refl

pub read_place_never : (slots : List GuestSlot) (table_max : ℕ) (p : Option GuestSlot) → Never (read_place_in slots table_max p)
read_place_never slots table_max p = after (file_in ReadAt p) _ (file_never ReadAt p)
    (λ f. after (room_for slots table_max 1) _ (room_never slots table_max 1) (λ _. tt))

pub position_never : (base : ℕ) (offset : ℤ) → Never (position_from base offset)
unfolding position_from
position_never base offset = by (pos base +ℤ offset)
  where
    by : (z : ℤ) → Never (position_of z)
    by (pos n) = when (nat_lt n (2 ^ 64)) n _ refl
    by (negsuc n) = refl

pub synchronized_never : (fdflags : ℕ) → Never (not_synchronized fdflags)
unfolding not_synchronized
synchronized_never fdflags = by (has fdflags flag.dsync || has fdflags flag.rsync || has fdflags flag.sync)
  where
    by : (b : Bool) → Never (let m : CallResult (Unit {0}) = cond b (Err (Errno errnos.Inval)) (Ok tt) in m)
    by true = refl
    by false = tt

pub append_never : (perms : FsPerms) (modes : FileModes) → Never (keeps_append perms modes)
unfolding keeps_append
append_never perms modes = by (is_append_only perms && not modes.append)
  where
    by : (b : Bool) → Never (let m : CallResult (Unit {0}) = cond b (Err (Errno errnos.Perm)) (Ok tt) in m)
    by true = refl
    by false = tt

pub refused_never : {A : Type 0} (e : ErrorNumber) → IsTrue (may_be_answered e) → (o : Option A) → Never (or_refused e o)
refused_never e listed (Some x) = tt
refused_never e listed None = listed

within_never : (name : List ℕ) (most : ℕ) → Never (name_within name most)
unfolding name_within
within_never name most = by (nat_lt most (length name))
  where
    by : (b : Bool) → Never (cond b (Err (Errno errnos.Nametoolong)) (Ok name))
    by true = refl
    by false = tt

pub name_never : (memory : List ℕ) (at : ℕ) (name : List ℕ) (most : ℕ) → Never (name_into memory at name most)
unfolding name_into
name_never memory at name most = after (name_within name most) _ (within_never name most)
    (λ bytes. after (range memory at (length bytes)) _ (range_never memory at (length bytes)) (λ _. tt))

-- ---- what needs no tree

fits_never : (n : ℕ) → Never (fits_32 n)
fits_never n = when (nat_lt n (2 ^ 32)) _ _ refl

pub sizes_never : (texts : List (List ℕ)) → Never (sizes_of texts)
unfolding sizes_of
sizes_never texts = after (fits_32 (length texts)) _ (fits_never (length texts)) (λ count.
    after (fits_32 (total_of texts)) _ (fits_never (total_of texts)) (λ total. tt))

-- the standard input is read into a buffer
pub input_never : (memory : List ℕ) (stock : GuestEnvModel) (buffer : Iovec) → Never (input_into memory stock buffer)
unfolding input_into
input_never memory stock buffer = after (next_input stock.stdin buffer.buf_len) _ (by (length stock.stdin == 0)) (λ bytes. tt)
  where
    some : CallResult (List ℕ)
    some = cond (buffer.buf_len == 0) (Err (Errno errnos.Intr)) (Ok (take buffer.buf_len stock.stdin))

    takes : (b : Bool) → Never (let m : CallResult (List ℕ) = cond b (Err (Errno errnos.Intr)) (Ok (take buffer.buf_len stock.stdin)) in m)
    takes true = refl
    takes false = tt

    by : (b : Bool) → Never (cond b (Ok []) some)
    by true = tt
    by false = takes (buffer.buf_len == 0)

aligned_never : (at : ℕ) → Never (aligned at)
aligned_never at = when (at % 4 == 0) _ _ tt

pub texts_never : (memory : List ℕ) (texts : List (List ℕ)) (at buf : ℕ) → Never (texts_at memory texts at buf)
unfolding texts_at
texts_never memory texts at buf = by (length texts == 0)
  where
    put : Never (put_texts memory texts at buf)
    put = after (aligned at) _ (aligned_never at) (λ _.
        after (range memory at (4 * length texts)) _ (range_never memory at (4 * length texts)) (λ _.
        after (range memory buf (total_of texts)) _ (range_never memory buf (total_of texts)) (λ _. tt)))

    by : (b : Bool) → Never (cond b (Ok memory) (put_texts memory texts at buf))
    by true = tt
    by false = put

moment_never : (wall : WallDatetime) (monotonic : ℕ) (clock : Clockid) → Never (moment_of wall monotonic clock)
moment_never wall monotonic clocks.Realtime = when (nat_lt (wall.seconds * 10 ^ 9 + wall.nanoseconds) (2 ^ 64)) _ _ refl
moment_never wall monotonic clocks.Monotonic = tt
moment_never wall monotonic clock = refl

pub clock_res_never : (stock : GuestEnvModel) (id : ℕ) → Never (clock_res stock id)
unfolding clock_res
clock_res_never stock id = after (or_inval (clockid_of id)) _ (inval_never (clockid_of id))
    (moment_never stock.wall_resolution stock.monotonic_resolution)

pub clock_time_never : (stock : GuestEnvModel) (id : ℕ) → Never (clock_time stock id)
unfolding clock_time
clock_time_never stock id = after (or_inval (clockid_of id)) _ (inval_never (clockid_of id))
    (moment_never stock.wall stock.monotonic)

pub exit_never : (status : ℕ) → IsRefusal (exit_with status)
exit_never status = by (nat_le 126 status)
  where
    by : (b : Bool) → IsRefusal (cond b (Trap ExitStatus) (Exit status))
    by true = tt
    by false = tt

pub signal_never : (signal : ℕ) → Never (known_signal signal)
unfolding known_signal
signal_never signal = when (is_signal signal) _ _ refl
