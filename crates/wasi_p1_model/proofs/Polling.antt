-- What polls wait for: each part is refused as parts of specifications are, the files are those of descriptors that are
-- named, and what is told are bytes.
use Rattle.std.proofs.Common.{ℕ, zero, suc, ◌+◌, ◌-◌, ◌*◌, ◌/◌, ◌%◌, ◌^◌, ◌≡◌, ◌<◌, inl, inr, true, false, cond, Bool, nat_le, nat_lt, List, [], ◌∷◌, ◌++◌, length, drop, refl, sym, subst, slice_get, Ok, Err, arith}
use Rattle.std.specs.Prelude.{Contains, ◌==◌, ◌&&◌}
use Rattle.std.specs.Int.{to_le_bytes, byte_at, bytes_low_first, w16, w64}
use Rattle.std.proofs.lemmas.Bool.{lt-ltb}
use Rattle.std.proofs.lemmas.List.Elements.{Contains-append_cases, Contains-append_left, Contains-append_right}
use Rattle.wasi_fs.specs.Perms.{is_read_only}
use Rattle.wasi_guest.specs.Enums.{clockid_of}
use Rattle.wasi_guest.specs.Event.{event_bytes}
use Rattle.wasi_guest.specs.Flags as flag
use Rattle.wasi_guest.specs.Flags.{has, flags_in, known_subclockflags}
use Rattle.wasi_guest.specs.Range.{in_memory, with_bytes}
use Rattle.wasi_guest.specs.Records.{Found}
use Rattle.wasi_guest.specs.Subscription.{subscription_in}
use Rattle.wasi_guest.specs.declared.enums.Clockid.{Clockid}
use Rattle.wasi_guest.specs.declared.enums.Clockid.TheVariants as clocks
use Rattle.wasi_guest.specs.declared.errno.Errno.TheVariants as errnos
use Rattle.wasi_guest.specs.declared.subscription.Subscription.{Subscription}
use Rattle.wasi_guest.specs.declared.subscription.SubscriptionKind.{SubscriptionKind}
use Rattle.wasi_guest.specs.declared.subscription.SubscriptionKind.TheVariants as kinds
use Rattle.wasi_host.specs.Steps.{◌>>=◌}
use Rattle.wasi_p1_types.specs.Guest.{GuestSlot, node_in}
use Rattle.wasi_p1_types.specs.SpecParts.{from_guest, ReadTarget, input, from, read_target_in, WriteTarget, output, into, write_target_in}
use Rattle.wasi_p1_types.specs.Polling.{some_asked, lists_within, end_of, clock_end, waiting_to_read, waiting_to_write, waiting_for, waited_at, all_waited, nodes_in, nodes_read, comes_at, type_of, nbytes_in, event_flags, wall_later, clocks_at, event_of, first_size, events, with_events}
use Rattle.wasi_p1_types.specs.RawFlags.{or_inval}
use Rattle.wasi_p1_types.specs.CallResult.{CallResult, give}
use Rattle.wasi_p1_types.specs.Services.{nanoseconds_of}
use Rattle.wasi_p1_types.specs.GuestEnvModel.{GuestEnvModel}
use Rattle.wasi_p1_model.specs.Subscriptions.{descriptor_awaited, named_in, waited_for}
use Rattle.wasi_p1_types.specs.declared.error.P1Error.{P1Error}
use Rattle.wasi_p1_types.specs.declared.error.P1Error.TheVariants.{Errno}
use Rattle.wasi_p1_types.specs.declared.guest_env.Clocks.{Clocks}
use Rattle.wasi_p1_types.specs.declared.awaited.Awaited.{Awaited}
use Rattle.wasi_p1_types.specs.declared.awaited.Awaited.TheVariants as awaiteds
use Rattle.wasi_p1_types.specs.declared.awaited.Waited.{Waited}
use Rattle.wasi_p1_model.specs.Validity.{AreBytes}
use Rattle.wasi_p1_model.proofs.Bytes.{joined, put_bytes}
use Rattle.wasi_p1_model.proofs.Changing.{source_is}
use Rattle.wasi_p1_types.proofs.Wanting.{IsRefusal, Never, after, when, guest_never, inval_never, source_never, sink_never}

-- ---- refusals

pub unless_so : {A : Type 0} (b : Bool) (x : A) (e : P1Error) → IsRefusal e → Never (cond b (Err e) (Ok x))
unless_so true x e other = other
unless_so false x e other = tt

pub some_never : (n : ℕ) → Never (some_asked n)
unfolding some_asked
some_never n = unless_so (n == 0) tt _ refl

pub lists_never : (memory : List ℕ) (subscriptions at n : ℕ) → Never (lists_within memory subscriptions at n)
unfolding lists_within
lists_never memory subscriptions at n = when ((subscriptions % 8 == 0) && ((at % 8 == 0)
    && (in_memory memory subscriptions (48 * n) && in_memory memory at (32 * n)))) tt _ tt

end_never : (stock : GuestEnvModel) (timeout : ℕ) (absolute : Bool) (clock : Clockid) → Never (end_of stock timeout absolute clock)
end_never stock timeout true clocks.Realtime = after (nanoseconds_of stock.wall) _
    (when (nat_lt (stock.wall.seconds * 10 ^ 9 + stock.wall.nanoseconds) (2 ^ 64)) _ _ refl) (λ now. tt)
end_never stock timeout true clocks.Monotonic = tt
end_never stock timeout false clocks.Realtime = tt
end_never stock timeout false clocks.Monotonic = tt
end_never stock timeout absolute clocks.ProcessCputimeId = refl
end_never stock timeout absolute clocks.ThreadCputimeId = refl

clock_never : (stock : GuestEnvModel) (id timeout flags : ℕ) → Never (clock_end stock id timeout flags)
unfolding clock_end
clock_never stock id timeout flags = after (or_inval (clockid_of id)) _ (inval_never (clockid_of id)) (λ clock.
    after (or_inval (flags_in known_subclockflags flags)) _ (inval_never (flags_in known_subclockflags flags))
    (λ set. end_never stock timeout (has set flag.subscription_clock_abstime) clock))

to_write_never : (sink : WriteTarget) → Never (waiting_to_write sink)
to_write_never (output o) = tt
to_write_never (into f) = unless_so (is_read_only f.perms) awaiteds.FileToWrite _ refl

waiting_never : (stock : GuestEnvModel) (slots : List GuestSlot) (what : SubscriptionKind) → Never (waiting_for stock slots what)
waiting_never stock slots (kinds.Clock id timeout precision flags) =
    after (clock_end stock id timeout flags) _ (clock_never stock id timeout flags) (λ end. tt)
waiting_never stock slots (kinds.FdRead fd) =
    after (read_target_in (slice_get slots fd)) _ (source_never (slice_get slots fd)) (λ source. tt)
waiting_never stock slots (kinds.FdWrite fd) =
    after (write_target_in (slice_get slots fd)) _ (sink_never (slice_get slots fd)) to_write_never

one_never : (stock : GuestEnvModel) (slots : List GuestSlot) (memory : List ℕ) (at : ℕ) → Never (waited_at stock slots memory at)
unfolding waited_at
one_never stock slots memory at = after (from_guest (subscription_in memory at)) _ (guest_never (subscription_in memory at))
    (λ asked. after (waiting_for stock slots asked.what) _ (waiting_never stock slots asked.what) (λ what. tt))

pub waited_never : (stock : GuestEnvModel) (slots : List GuestSlot) (memory : List ℕ) (at n : ℕ)
    → Never (all_waited stock slots memory at n)
unfolding all_waited
waited_never stock slots memory at zero = tt
waited_never stock slots memory at (suc n) = after (waited_at stock slots memory at) _ (one_never stock slots memory at)
    (λ first. after (all_waited stock slots memory (at + 48) n) _ (waited_never stock slots memory (at + 48) n) (λ others. tt))

pub clocks_never : (stock : GuestEnvModel) (moment : ℕ) → Never (clocks_at stock moment)
unfolding clocks_at
clocks_never stock moment = by (nat_le moment stock.monotonic)
  where
    later : CallResult Clocks
    later = wall_later stock.wall (moment - stock.monotonic) >>= (λ wall. give (record { wall = wall; monotonic = moment }))

    by : (b : Bool) → Never (cond b (Ok (record { wall = stock.wall; monotonic = stock.monotonic })) later)
    by true = tt
    by false = after (wall_later stock.wall (moment - stock.monotonic)) _ (when
        (nat_lt (stock.wall.seconds + (stock.wall.nanoseconds + (moment - stock.monotonic)) / 10 ^ 9) (2 ^ 63)) _ _ refl)
        (λ wall. tt)

-- ---- files

no_element : {P : Type 0} (n : ℕ) → Contains {X = ℕ} [] n → P
no_element n has = absurd (omega (arith, has.1))

-- a node is that of one of some descriptors
pub record IsOf (slots : List GuestSlot) (fds : List ℕ) (n : ℕ) : Type 0 where
  pub fd : ℕ
  pub named : Contains fds fd
  pub node : Contains (node_in (slice_get slots fd)) n

-- what is waited for of one subscription
abbrev NamesOne : List GuestSlot → List ℕ → CallResult Awaited → Type 0
NamesOne slots fds (Ok what) = (n : ℕ) → Contains (nodes_in what) n → IsOf slots fds n
NamesOne slots fds (Err e) = Unit {0}

abbrev NamesAll : List GuestSlot → List ℕ → CallResult (List Waited) → Type 0
NamesAll slots fds (Ok ws) = (n : ℕ) → Contains (nodes_read ws) n → IsOf slots fds n
NamesAll slots fds (Err e) = Unit {0}

asked_names : (stock : GuestEnvModel) (slots : List GuestSlot) (what : SubscriptionKind)
    → NamesOne slots (descriptor_awaited what) (waiting_for stock slots what)
asked_names stock slots (kinds.Clock id timeout precision flags) = by (clock_end stock id timeout flags)
  where
    by : (m : CallResult ℕ) → NamesOne slots [] (m >>= (λ end. give (awaiteds.Clock end)))
    by (Ok end) = λ n has. no_element n has
    by (Err e) = tt
asked_names stock slots (kinds.FdRead fd) = by (read_target_in (slice_get slots fd)) refl
  where
    by : (m : CallResult ReadTarget) → read_target_in (slice_get slots fd) ≡ m
        → NamesOne slots (fd ∷ []) (m >>= (λ source. give (waiting_to_read source)))
    by (Ok input) is = λ n has. no_element n has
    by (Ok (from f)) is = λ n has. record {
      fd = fd;
      named = (0, omega arith, refl);
      node = subst (λ slot. Contains (node_in slot) n) (sym (source_is (slice_get slots fd) is)) has;
    }
    by (Err e) is = tt
asked_names stock slots (kinds.FdWrite fd) = by (write_target_in (slice_get slots fd))
  where
    none : (b : Bool) → NamesOne slots (fd ∷ []) (let m : CallResult Awaited = cond b (Err (Errno errnos.Perm)) (Ok awaiteds.FileToWrite) in m)
    none true = tt
    none false = λ n has. no_element n has

    by : (m : CallResult WriteTarget) → NamesOne slots (fd ∷ []) (m >>= waiting_to_write)
    by (Ok (output o)) = λ n has. no_element n has
    by (Ok (into f)) = none (is_read_only f.perms)
    by (Err e) = tt

-- of all: those of the first, and of the others
both_name : (slots : List GuestSlot) (asked : Found Subscription) (what : Subscription → CallResult Awaited) (all : CallResult (List Waited)) (fds : List ℕ)
    → ((s : Subscription) → NamesOne slots (descriptor_awaited s.what) (what s)) → NamesAll slots fds all
    → NamesAll slots (named_in asked ++ fds)
    ((from_guest asked >>= (λ s. what s >>= (λ w. give (record { userdata = s.userdata; what = w }))))
    >>= (λ first. all >>= (λ others. give (first ∷ others))))
unfolding nodes_read
both_name slots (Err e) what all fds first others = tt
both_name slots (Ok s) what all fds first others = by (what s) (first s) all others
  where
    by : (one : CallResult Awaited) → NamesOne slots (descriptor_awaited s.what) one → (all : CallResult (List Waited)) → NamesAll slots fds all
        → NamesAll slots (descriptor_awaited s.what ++ fds) ((one >>= (λ w. give (record { userdata = s.userdata; what = w })))
        >>= (λ first. all >>= (λ others. give (first ∷ others))))
    by (Err e) first all others = tt
    by (Ok w) first (Err e) others = tt
    by (Ok w) first (Ok ws) others = λ n has. elim (Contains-append_cases (nodes_in w) (nodes_read ws) n has) [
      | inl here ↦ let is = first n here in
          record { fd = is.fd; named = Contains-append_left (descriptor_awaited s.what) fds is.fd is.named; node = is.node }
      | inr later ↦ let is = others n later in
          record { fd = is.fd; named = Contains-append_right (descriptor_awaited s.what) fds is.fd is.named; node = is.node }
    ]

all_name : (stock : GuestEnvModel) (slots : List GuestSlot) (memory : List ℕ) (at n : ℕ)
    → NamesAll slots (waited_for memory at n) (all_waited stock slots memory at n)
unfolding all_waited waited_at waited_for nodes_read
all_name stock slots memory at zero = λ n has. no_element n has
all_name stock slots memory at (suc n) =
    both_name slots (subscription_in memory at) (λ s. waiting_for stock slots s.what) (all_waited stock slots memory (at + 48) n)
    (waited_for memory (at + 48) n) (λ s. asked_names stock slots s.what) (all_name stock slots memory (at + 48) n)

-- the files that are read are those of descriptors that are named
pub files_named_by : {ws : List Waited} (stock : GuestEnvModel) (slots : List GuestSlot) (memory : List ℕ) (at n : ℕ)
    → all_waited stock slots memory at n ≡ Ok ws → (node : ℕ) → Contains (nodes_read ws) node
    → IsOf slots (waited_for memory at n) node
files_named_by stock slots memory at n is = subst (NamesAll slots (waited_for memory at n)) is (all_name stock slots memory at n)

-- ---- bytes

byte_small : (i n : ℕ) → byte_at i n < 256
byte_small zero n = omega arith
byte_small (suc i) n = omega arith

pub low_bytes : (i k n : ℕ) → AreBytes (bytes_low_first i k n)
low_bytes i zero n = refl
low_bytes i (suc k) n =
    let small : nat_lt (byte_at i n) 256 ≡ true = lt-ltb (byte_at i n) 256 (byte_small i n) in
    rw (small, low_bytes (suc i) k n) refl

type_small : (what : Awaited) → nat_lt (type_of what) 256 ≡ true
type_small (awaiteds.Clock end) = refl
type_small awaiteds.Input = refl
type_small (awaiteds.FileToRead node position) = refl
type_small awaiteds.Output = refl
type_small awaiteds.FileToWrite = refl

event_are : (w : Waited) (size : ℕ) → AreBytes (event_bytes (event_of w size))
event_are w size =
    let last : List ℕ = to_le_bytes w16 (event_flags w.what size) ++ (0 ∷ 0 ∷ 0 ∷ 0 ∷ 0 ∷ 0 ∷ []) in
    let counted : List ℕ = to_le_bytes w64 (nbytes_in w.what) ++ last in
    let typed : List ℕ = type_of w.what ∷ 0 ∷ 0 ∷ 0 ∷ 0 ∷ 0 ∷ counted in
    let last_are : AreBytes last = joined (to_le_bytes w16 (event_flags w.what size)) (0 ∷ 0 ∷ 0 ∷ 0 ∷ 0 ∷ 0 ∷ [])
    (low_bytes 0 2 (event_flags w.what size)) refl in
    let counted_are : AreBytes counted = joined (to_le_bytes w64 (nbytes_in w.what)) last (low_bytes 0 8 (nbytes_in w.what)) last_are in
    let typed_are : AreBytes typed = rw (type_small w.what) counted_are in
    joined (to_le_bytes w64 w.userdata) (to_le_bytes w16 0 ++ typed) (low_bytes 0 8 w.userdata)
    (joined (to_le_bytes w16 0) typed (low_bytes 0 2 0) typed_are)

-- events that are written leave bytes
pub events_bytes : (moment : ℕ) (ws : List Waited) (sizes memory : List ℕ) (at : ℕ) → AreBytes memory
    → AreBytes (with_events memory at (events moment ws sizes))
unfolding events with_events
events_bytes moment [] sizes memory at are = are
events_bytes moment (w ∷ ws) sizes memory at are =
    by (nat_le (comes_at w.what) moment) (λ memory at are. events_bytes moment ws rest memory at are)
  where
    rest : List ℕ
    rest = drop (length (nodes_in w.what)) sizes

    put : List ℕ
    put = with_bytes memory at (event_bytes (event_of w (first_size sizes)))

    by : (b : Bool) → ((memory : List ℕ) (at : ℕ) → AreBytes memory → AreBytes (with_events memory at (events moment ws rest)))
        → AreBytes (with_events memory at (cond b (event_of w (first_size sizes) ∷ events moment ws rest) (events moment ws rest)))
    by true others = others put (at + 32)
        (put_bytes memory (event_bytes (event_of w (first_size sizes))) at are (event_are w (first_size sizes)))
    by false others = others memory at are
