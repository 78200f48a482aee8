-- What a poll waits for, when each of it comes, and what is told of it.
use Rattle.std.specs.Prelude.{ℕ, zero, suc, ◌+◌, ◌-◌, ◌*◌, ◌/◌, ◌%◌, ◌^◌, ◌==◌, ◌&&◌, nat_le, nat_lt, min, Bool, true, false, if◌then◌else◌, List, [], ◌∷◌, ◌++◌, length, drop, slice_get, Ok, Err}
use Rattle.wasi_host.specs.Steps.{◌>>=◌}
use Rattle.wasi_host.specs.declared.open_handle.OpenHandle.{OpenHandle}
use Rattle.wasi_fs.specs.Perms.{is_read_only}
use Rattle.wasi_guest.specs.Enums.{clockid_of}
use Rattle.wasi_guest.specs.Event.{event_bytes}
use Rattle.wasi_guest.specs.Flags as flag
use Rattle.wasi_guest.specs.Flags.{has, flags_in, known_subclockflags}
use Rattle.wasi_guest.specs.Range.{in_memory, with_bytes}
use Rattle.wasi_guest.specs.Subscription.{subscription_in}
use Rattle.wasi_guest.specs.declared.answer.TrapKind.TheVariants.{Pointer}
use Rattle.wasi_guest.specs.declared.enums.Clockid.{Clockid}
use Rattle.wasi_guest.specs.declared.enums.Clockid.TheVariants as clocks
use Rattle.wasi_guest.specs.declared.errno.Errno.TheVariants as errnos
use Rattle.wasi_guest.specs.declared.guest_env.WallDatetime.{WallDatetime}
use Rattle.wasi_guest.specs.declared.event.Event.{Event}
use Rattle.wasi_guest.specs.declared.subscription.SubscriptionKind.{SubscriptionKind}
use Rattle.wasi_guest.specs.declared.subscription.SubscriptionKind.TheVariants as kinds
use Rattle.wasi_p1_types.specs.Guest.{GuestSlot}
use Rattle.wasi_p1_types.specs.SpecParts.{from_guest, ReadTarget, input, from, read_target_in, WriteTarget, output, into, write_target_in}
use Rattle.wasi_p1_types.specs.RawFlags.{or_inval}
use Rattle.wasi_p1_types.specs.CallResult.{CallResult, give}
use Rattle.wasi_p1_types.specs.Services.{nanoseconds_of}
use Rattle.wasi_p1_types.specs.GuestEnvModel.{GuestEnvModel}
use Rattle.wasi_p1_types.specs.declared.error.P1Error.TheVariants.{Errno, Trap}
use Rattle.wasi_p1_types.specs.declared.guest_env.Clocks.{Clocks}
use Rattle.wasi_p1_types.specs.declared.awaited.Awaited.{Awaited}
use Rattle.wasi_p1_types.specs.declared.awaited.Awaited.TheVariants as awaiteds
use Rattle.wasi_p1_types.specs.declared.awaited.Judged.{Judged}
use Rattle.wasi_p1_types.specs.declared.awaited.Waited.{Waited}

-- ---- where both lists stand

-- a poll of nothing is refused
unfoldable pub some_asked : ℕ → CallResult (Unit {0})
some_asked n = if n == 0 then Err (Errno errnos.Inval) else Ok tt

-- so many subscriptions, and as many events, stand in memory at multiples of 8, or it traps
unfoldable pub lists_within : List ℕ → ℕ → ℕ → ℕ → CallResult (Unit {0})
lists_within memory subscriptions events n =
    if (subscriptions % 8 == 0) && ((events % 8 == 0)
    && (in_memory memory subscriptions (48 * n) && in_memory memory events (32 * n)))
    then Ok tt
    else Err (Trap Pointer)

-- ---- the ends of clocks

-- so long from now, and no later than the last moment of the monotonic clock
abbrev pub end_after : GuestEnvModel → ℕ → ℕ
end_after stock wait = min (stock.monotonic + wait) (2 ^ 64 - 1)

-- Until a moment of the wall clock, or of the monotonic one, or so long from now on. What the wall clock stands at is
-- refused `overflow` where 64 bits of nanoseconds don't hold it. A clock of processor time is refused
abbrev pub end_of : GuestEnvModel → ℕ → Bool → Clockid → CallResult ℕ
end_of stock timeout true clocks.Realtime = nanoseconds_of stock.wall >>= (λ now. give (end_after stock (timeout - now)))
end_of stock timeout true clocks.Monotonic = Ok timeout
end_of stock timeout false clocks.Realtime = Ok (end_after stock timeout)
end_of stock timeout false clocks.Monotonic = Ok (end_after stock timeout)
end_of stock timeout absolute clocks.ProcessCputimeId = Err (Errno errnos.Inval)
end_of stock timeout absolute clocks.ThreadCputimeId = Err (Errno errnos.Inval)

-- the moment of the monotonic clock at which a clock is at its end, by raw numbers
unfoldable pub clock_end : GuestEnvModel → ℕ → ℕ → ℕ → CallResult ℕ
clock_end stock id timeout flags = do
  clock ← or_inval (clockid_of id)
  set ← or_inval (flags_in known_subclockflags flags)
  end_of stock timeout (has set flag.subscription_clock_abstime) clock

-- ---- what is waited for

-- A subscription is judged to an `Awaited`, in which the number of a file that is read is that of its node: in the code
-- it is the number of its handle

abbrev pub waiting_to_read : ReadTarget → Awaited
waiting_to_read input = awaiteds.Input
waiting_to_read (from f) = awaiteds.FileToRead f.node f.position

-- nothing is written under read-only permissions
abbrev pub waiting_to_write : WriteTarget → CallResult Awaited
waiting_to_write (output o) = Ok awaiteds.Output
waiting_to_write (into f) = if is_read_only f.perms then Err (Errno errnos.Perm) else Ok awaiteds.FileToWrite

-- by what a subscription asks for
abbrev pub waiting_for : GuestEnvModel → List GuestSlot → SubscriptionKind → CallResult Awaited
waiting_for stock slots (kinds.Clock id timeout precision flags) =
    clock_end stock id timeout flags >>= (λ end. give (awaiteds.Clock end))
waiting_for stock slots (kinds.FdRead fd) = read_target_in (slice_get slots fd) >>= (λ source. give (waiting_to_read source))
waiting_for stock slots (kinds.FdWrite fd) = write_target_in (slice_get slots fd) >>= waiting_to_write

-- one subscription at an address: as it can't be read, then by its rule
unfoldable pub waited_at : GuestEnvModel → List GuestSlot → List ℕ → ℕ → CallResult Waited
waited_at stock slots memory at = do
  asked ← from_guest (subscription_in memory at)
  what ← waiting_for stock slots asked.what
  give (record { userdata = asked.userdata; what = what })

-- so many from an address on, in order
unfoldable pub all_waited : GuestEnvModel → List GuestSlot → List ℕ → ℕ → ℕ → CallResult (List Waited)
all_waited stock slots memory at zero = give []
all_waited stock slots memory at (suc n) = do
  first ← waited_at stock slots memory at
  others ← all_waited stock slots memory (at + 48) n
  give (first ∷ others)

-- ---- of each of them

-- when it comes: a stream or a file is ready from the first moment on
abbrev pub comes_at : Awaited → ℕ
comes_at (awaiteds.Clock end) = end
comes_at what = 0

-- how many files it names
abbrev pub files_in : Awaited → ℕ
files_in awaiteds.FileToWrite = 1
files_in (awaiteds.FileToRead node position) = 1
files_in what = 0

-- the file whose size is asked for
abbrev pub nodes_in : Awaited → List ℕ
nodes_in (awaiteds.FileToRead node position) = node ∷ []
nodes_in what = []

-- the number of its event's type: a clock's, of a read, of a write
abbrev pub type_of : Awaited → ℕ
type_of (awaiteds.Clock end) = 0
type_of awaiteds.Input = 1
type_of (awaiteds.FileToRead node position) = 1
type_of awaiteds.Output = 2
type_of awaiteds.FileToWrite = 2

-- how many bytes can be read or written, as far as that is told
abbrev pub nbytes_in : Awaited → ℕ
nbytes_in (awaiteds.Clock end) = 0
nbytes_in what = 1

-- that a file of this size is read to its end
abbrev pub event_flags : Awaited → ℕ → ℕ
event_flags (awaiteds.FileToRead node position) size = if nat_le size position then 1 else 0
event_flags what size = 0

-- ---- of all of them

-- when the first of them comes
unfoldable pub earliest : List Waited → ℕ
earliest [] = 2 ^ 64 - 1
earliest (w ∷ ws) = min (comes_at w.what) (earliest ws)

-- how many name a file
unfoldable pub files_named : List Waited → ℕ
files_named [] = 0
files_named (w ∷ ws) = files_in w.what + files_named ws

-- the nodes of the files that are read, in order
unfoldable pub nodes_read : List Waited → List ℕ
nodes_read [] = []
nodes_read (w ∷ ws) = nodes_in w.what ++ nodes_read ws

-- ---- waiting

-- the wall clock so many nanoseconds later, where whole seconds are carried out of them; seconds that 63 bits don't hold
-- are refused `overflow`
abbrev pub wall_later : WallDatetime → ℕ → CallResult WallDatetime
wall_later wall by =
    if nat_lt (wall.seconds + (wall.nanoseconds + by) / 10 ^ 9) (2 ^ 63)
    then Ok (record {
      seconds = wall.seconds + (wall.nanoseconds + by) / 10 ^ 9;
      nanoseconds = (wall.nanoseconds + by) % 10 ^ 9;
    })
    else Err (Errno errnos.Overflow)

-- What both clocks stand at when the monotonic one has come to a moment: as they do where it has already, and else both
-- have gone on alike
unfoldable pub clocks_at : GuestEnvModel → ℕ → CallResult Clocks
clocks_at stock moment =
    if nat_le moment stock.monotonic
    then Ok (record { wall = stock.wall; monotonic = stock.monotonic })
    else wall_later stock.wall (moment - stock.monotonic) >>= (λ wall. give (record { wall = wall; monotonic = moment }))

-- the clocks stand so
abbrev pub with_clocks : GuestEnvModel → Clocks → GuestEnvModel
with_clocks stock clocks = record stock { wall = clocks.wall; monotonic = clocks.monotonic }

-- ---- what is told

abbrev pub event_of : Waited → ℕ → Event
event_of w size = record {
  userdata = w.userdata;
  error = 0;
  kind = type_of w.what;
  nbytes = nbytes_in w.what;
  flags = event_flags w.what size;
}

-- the first size, of those that are left
abbrev pub first_size : List ℕ → ℕ
first_size [] = 0
first_size (size ∷ sizes) = size

-- an event of each that has come by a moment, in order, with the sizes of the files that are read
unfoldable pub events : ℕ → List Waited → List ℕ → List Event
events moment [] sizes = []
events moment (w ∷ ws) sizes =
    if nat_le (comes_at w.what) moment
    then event_of w (first_size sizes) ∷ events moment ws (drop (length (nodes_in w.what)) sizes)
    else events moment ws (drop (length (nodes_in w.what)) sizes)

-- they stand in memory from an address on, one after the other
unfoldable pub with_events : List ℕ → ℕ → List Event → List ℕ
with_events memory at [] = memory
with_events memory at (e ∷ es) = with_events (with_bytes memory at (event_bytes e)) (at + 32) es

-- ---- what the code has of it

-- the node that a handle stands for in place of the handle
abbrev pub awaited_by : (ℕ → OpenHandle) → Awaited → Awaited
awaited_by held (awaiteds.FileToRead file position) = awaiteds.FileToRead (held file).node position
awaited_by held what = what

abbrev pub waited_by : (ℕ → OpenHandle) → Waited → Waited
waited_by held w = record w { what = awaited_by held w.what }

-- what holds of the file whose size is asked for
abbrev pub OfReading : (ℕ → Type 0) → Awaited → Type 0
OfReading P (awaiteds.FileToRead file position) = P file
OfReading P what = Unit {0}

-- how many name a file, and when the first of them comes, of these after others
abbrev pub judged_with : Judged → List Waited → Judged
judged_with before ws =
    record { files = before.files + files_named ws; earliest = min before.earliest (earliest ws) }

abbrev pub judged_of : List Waited → Judged
judged_of ws = record { files = files_named ws; earliest = earliest ws }

-- the same of so many from an address on, or the first refusal among them
abbrev pub judged_in : GuestEnvModel → List GuestSlot → List ℕ → ℕ → ℕ → CallResult Judged
judged_in stock slots memory at n = all_waited stock slots memory at n >>= (λ ws. give (judged_of ws))
