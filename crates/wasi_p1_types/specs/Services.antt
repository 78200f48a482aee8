-- What calls make of what a guest was handed in.
use Rattle.std.specs.Prelude.{ℕ, ◌+◌, ◌*◌, ◌%◌, ◌^◌, ◌==◌, nat_le, nat_lt, List, [], ◌∷◌, ◌++◌, length, take, drop, map, sum_by, slice_index_or, if◌then◌else◌, Ok, Err}
use Rattle.std.specs.List.{range_with_len}
use Rattle.std.specs.Int.{to_le_bytes, w32}
use Rattle.wasi_host.specs.Steps.{◌>>=◌}
use Rattle.wasi_guest.specs.Enums.{clockid_of, is_signal}
use Rattle.wasi_guest.specs.Range.{with_bytes}
use Rattle.wasi_guest.specs.declared.enums.Clockid.{Clockid}
use Rattle.wasi_guest.specs.declared.enums.Clockid.TheVariants as clocks
use Rattle.wasi_guest.specs.declared.iovec.Iovec.{Iovec}
use Rattle.wasi_guest.specs.declared.guest_env.WallDatetime.{WallDatetime}
use Rattle.wasi_guest.specs.declared.answer.TrapKind.TheVariants.{Pointer, ExitStatus}
use Rattle.wasi_guest.specs.declared.answer.Value.{Value}
use Rattle.wasi_guest.specs.declared.answer.Value.TheVariants.{Pair}
use Rattle.wasi_guest.specs.declared.errno.Errno.TheVariants as errnos
use Rattle.wasi_p1_types.specs.SpecParts.{range}
use Rattle.wasi_p1_types.specs.RawFlags.{or_inval}
use Rattle.wasi_p1_types.specs.CallResult.{CallResult, give}
use Rattle.wasi_p1_types.specs.GuestEnvModel.{GuestEnvModel}
use Rattle.wasi_p1_types.specs.declared.guest_env.Output.{Output}
use Rattle.wasi_p1_types.specs.declared.guest_env.Output.TheVariants as outputs
use Rattle.wasi_p1_types.specs.declared.error.P1Error.{P1Error}
use Rattle.wasi_p1_types.specs.declared.error.P1Error.TheVariants.{Errno, Trap, Exit}

-- ---- texts

-- how many bytes they have with a zero after each
unfoldable pub total_of : List (List ℕ) → ℕ
total_of texts = sum_by (λ text. length text + 1) texts

-- what 32 bits don't hold is refused `overflow`
abbrev pub fits_32 : ℕ → CallResult ℕ
fits_32 n = if nat_lt n (2 ^ 32) then Ok n else Err (Errno errnos.Overflow)

unfoldable pub sizes_of : List (List ℕ) → CallResult Value
sizes_of texts = do
  count ← fits_32 (length texts)
  total ← fits_32 (total_of texts)
  give (Pair count total)

-- an address that is no multiple of 4 traps
abbrev pub aligned : ℕ → CallResult ℕ
aligned at = if at % 4 == 0 then Ok at else Err (Trap Pointer)

-- the address of a text at one place, and at that address the text with a zero after it
abbrev pub with_text : List ℕ → List ℕ → ℕ → ℕ → List ℕ
with_text memory text at buf = with_bytes (with_bytes memory at (to_le_bytes w32 buf)) buf (text ++ 0 ∷ [])

-- the texts one after another, and their addresses from another place on
unfoldable pub with_texts : List ℕ → List (List ℕ) → ℕ → ℕ → List ℕ
with_texts memory [] at buf = memory
with_texts memory (text ∷ texts) at buf =
    with_texts (with_text memory text at buf) texts (at + 4) (buf + length text + 1)

abbrev pub put_texts : List ℕ → List (List ℕ) → ℕ → ℕ → CallResult (List ℕ)
put_texts memory texts at buf = do
  _ ← aligned at
  _ ← range memory at (4 * length texts)
  _ ← range memory buf (total_of texts)
  give (with_texts memory texts at buf)

-- nothing is looked at where there are none
unfoldable pub texts_at : List ℕ → List (List ℕ) → ℕ → ℕ → CallResult (List ℕ)
texts_at memory texts at buf = if length texts == 0 then Ok memory else put_texts memory texts at buf

-- nothing is answered beside it
abbrev pub with_unit : CallResult (List ℕ) → CallResult (Unit {0} × List ℕ)
with_unit (Ok memory) = Ok (tt, memory)
with_unit (Err e) = Err e

-- ---- clocks

-- in nanoseconds, of which 64 bits hold no more than some 584 years
abbrev pub nanoseconds_of : WallDatetime → CallResult ℕ
nanoseconds_of moment =
    if nat_lt (moment.seconds * 10 ^ 9 + moment.nanoseconds) (2 ^ 64)
    then Ok (moment.seconds * 10 ^ 9 + moment.nanoseconds)
    else Err (Errno errnos.Overflow)

-- the wall clock's moment, or the monotonic clock's; a guest is told of no processor's
abbrev pub moment_of : WallDatetime → ℕ → Clockid → CallResult ℕ
moment_of wall monotonic clocks.Realtime = nanoseconds_of wall
moment_of wall monotonic clocks.Monotonic = Ok monotonic
moment_of wall monotonic clocks.ProcessCputimeId = Err (Errno errnos.Badf)
moment_of wall monotonic clocks.ThreadCputimeId = Err (Errno errnos.Badf)

unfoldable pub clock_res : GuestEnvModel → ℕ → CallResult ℕ
clock_res stock id = or_inval (clockid_of id) >>= moment_of stock.wall_resolution stock.monotonic_resolution

unfoldable pub clock_time : GuestEnvModel → ℕ → CallResult ℕ
clock_time stock id = or_inval (clockid_of id) >>= moment_of stock.wall stock.monotonic

-- ---- ends and signals

abbrev pub exit_with : ℕ → P1Error
exit_with status = if nat_le 126 status then Trap ExitStatus else Exit status

unfoldable pub known_signal : ℕ → CallResult ℕ
known_signal signal = if is_signal signal then Ok signal else Err (Errno errnos.Inval)

-- ---- the standard streams

-- the next bytes of the standard input, as many as a buffer takes: none where none are left, and where some are an empty
-- buffer is refused `intr`
abbrev pub next_input : List ℕ → ℕ → CallResult (List ℕ)
next_input left size =
    if length left == 0 then Ok [] else if size == 0 then Err (Errno errnos.Intr) else Ok (take size left)

-- they stand in the buffer: how many, the memory after it, and what is left
unfoldable pub input_into : List ℕ → GuestEnvModel → Iovec → CallResult (ℕ × (List ℕ × GuestEnvModel))
input_into memory stock buffer =
    next_input stock.stdin buffer.buf_len >>= (λ bytes. give (
      length bytes,
      (with_bytes memory buffer.buf bytes, record stock { stdin = drop (length bytes) stock.stdin }),
    ))

-- a piece after what was written to an output
abbrev pub written : GuestEnvModel → Output → List ℕ → GuestEnvModel
written stock outputs.Stdout piece = record stock { stdout = stock.stdout ++ piece }
written stock outputs.Stderr piece = record stock { stderr = stock.stderr ++ piece }

-- ---- random bytes

-- the next ones, round and round; zeros where there are none
unfoldable pub random_bytes : GuestEnvModel → ℕ → List ℕ
random_bytes stock n =
    map (λ i. slice_index_or stock.random ((stock.random_at + i) % length stock.random) 0) (range_with_len 0 n)

unfoldable pub random_taken : GuestEnvModel → ℕ → GuestEnvModel
random_taken stock n = record stock {
  random_at = if length stock.random == 0 then 0 else (stock.random_at + n) % length stock.random;
}
