-- The record of what is waited for.
use Rattle.std.specs.Prelude.{ℕ, List, slice_index_or, is_none, if◌then◌else◌, Option, Some, None, Ok, Err}
use Rattle.wasi_guest.specs.Enums.{clockid_of, eventtype_of}
use Rattle.wasi_guest.specs.Flags.{flags_in, known_subclockflags}
use Rattle.wasi_guest.specs.Records.{Found, made_of, read_on, record_in, u16_at, u32_at, u64_at}
use Rattle.wasi_guest.specs.declared.enums.Eventtype.{Eventtype}
use Rattle.wasi_guest.specs.declared.enums.Eventtype.TheVariants as eventtypes
use Rattle.wasi_guest.specs.declared.guest_error.GuestError.TheVariants as errors
use Rattle.wasi_guest.specs.declared.subscription.Subscription.{Subscription}
use Rattle.wasi_guest.specs.declared.subscription.SubscriptionKind.{SubscriptionKind}
use Rattle.wasi_guest.specs.declared.subscription.SubscriptionKind.TheVariants as kinds

-- the end of a time: an unknown clock is refused, and then an unknown flag
abbrev pub clock_of : List ℕ → Found SubscriptionKind
clock_of bytes =
    if is_none (clockid_of (u32_at bytes 16)) then Err errors.InvalidEnumValue
    else if is_none (flags_in known_subclockflags (u16_at bytes 40)) then Err errors.InvalidFlagValue
    else Ok (kinds.Clock (u32_at bytes 16) (u64_at bytes 24) (u64_at bytes 32) (u16_at bytes 40))

abbrev pub kind_by : Option Eventtype → List ℕ → Found SubscriptionKind
kind_by (Some eventtypes.Clock) bytes = clock_of bytes
kind_by (Some eventtypes.FdRead) bytes = Ok (kinds.FdRead (u32_at bytes 16))
kind_by (Some eventtypes.FdWrite) bytes = Ok (kinds.FdWrite (u32_at bytes 16))
kind_by None bytes = Err errors.InvalidEnumValue

-- what is waited for, by the tag
abbrev pub awaited_of : List ℕ → Found SubscriptionKind
awaited_of bytes = kind_by (eventtype_of (slice_index_or bytes 8 0)) bytes

abbrev pub subscription_of : List ℕ → Found Subscription
subscription_of bytes = made_of (λ what. record { userdata = u64_at bytes 0; what = what }) (awaited_of bytes)

-- 48 bytes at a multiple of 8
abbrev pub subscription_in : List ℕ → ℕ → Found Subscription
subscription_in memory at = read_on (record_in memory at 48 8) subscription_of
