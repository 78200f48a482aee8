-- What is read from a memory at an address, or why it isn't.
use Rattle.std.specs.Prelude.{ℕ, ◌+◌, ◌-◌, ◌^◌, ◌%◌, ◌==◌, nat_lt, List, slice_range, if◌then◌else◌, Result, Ok, Err}
use Rattle.std.specs.Int.{from_le_bytes, w16, w32, w64}
use Rattle.std.specs.Result.{result_map_both}
use Rattle.std.specs.Str.{is_utf8}
use Rattle.wasi_guest.specs.Range.{in_memory}
use Rattle.wasi_guest.specs.declared.guest_error.GuestError.{GuestError}
use Rattle.wasi_guest.specs.declared.guest_error.GuestError.TheVariants as errors

-- what is read, or the first cause that it isn't
abbrev pub Found : Type 0 → Type 0
Found A = Result A GuestError

-- the bytes of a range
abbrev pub bytes_in : List ℕ → ℕ → ℕ → Found (List ℕ)
bytes_in memory at n =
    if nat_lt (2 ^ 32 - 1) (at + n) then Err errors.PtrOverflow
    else if in_memory memory at n then Ok (slice_range memory at (at + n))
    else Err errors.PtrOutOfBounds

-- those of a record of so many bytes, whose address is a multiple of this
abbrev pub record_in : List ℕ → ℕ → ℕ → ℕ → Found (List ℕ)
record_in memory at size alignment =
    if at % alignment == 0 then bytes_in memory at size else Err errors.PtrNotAligned

-- the text that bytes are
abbrev pub text_from : List ℕ → Found (List ℕ)
text_from bytes = if is_utf8 bytes then Ok bytes else Err errors.InvalidUtf8

-- what is read further in what was read
abbrev pub read_on : {A B : Type 0} → Found A → (A → Found B) → Found B
read_on (Ok x) next = next x
read_on (Err e) next = Err e

-- the text in a range
abbrev pub text_in : List ℕ → ℕ → ℕ → Found (List ℕ)
text_in memory at n = read_on (bytes_in memory at n) text_from

-- what is made of what was read
abbrev pub made_of : {A B : Type 0} → (A → B) → Found A → Found B
made_of f found = result_map_both f (λ e. e) found

-- the little-endian numbers of two, four and eight bytes at a place of a record
abbrev pub u16_at : List ℕ → ℕ → ℕ
u16_at bytes at = from_le_bytes w16 (slice_range bytes at (at + 2))

abbrev pub u32_at : List ℕ → ℕ → ℕ
u32_at bytes at = from_le_bytes w32 (slice_range bytes at (at + 4))

abbrev pub u64_at : List ℕ → ℕ → ℕ
u64_at bytes at = from_le_bytes w64 (slice_range bytes at (at + 8))

-- the number at an address that is a multiple of 4
abbrev pub u32_in : List ℕ → ℕ → Found ℕ
u32_in memory at = made_of (λ bytes. u32_at bytes 0) (record_in memory at 4 4)
