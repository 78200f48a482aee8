-- The specifications of the calls that need no tree.
use Rattle.std.specs.Prelude.{ℕ, List, slice_get, Err}
use Rattle.wasi_guest.specs.Flags.{flags_in, known_fdflags, known_riflags, known_sdflags}
use Rattle.wasi_guest.specs.Range.{with_bytes}
use Rattle.wasi_guest.specs.declared.answer.Value.TheVariants.{Number, Unit as Nothing}
use Rattle.wasi_guest.specs.declared.errno.Errno.TheVariants as errnos
use Rattle.wasi_p1_types.specs.Front.{CallFront, free, answer, tells, ◌>>=◌}
use Rattle.wasi_p1_types.specs.Guest.{Guest}
use Rattle.wasi_p1_types.specs.SpecParts.{range, live_in}
use Rattle.wasi_p1_types.specs.RawFlags.{or_inval}
use Rattle.wasi_p1_types.specs.CallResult.{CallResult, give}
use Rattle.wasi_p1_types.specs.Services.{sizes_of, texts_at, clock_res, clock_time, exit_with, known_signal, random_bytes, random_taken}
use Rattle.wasi_p1_types.specs.declared.error.P1Error.TheVariants.{Errno}

-- Where there are texts: a list of addresses that isn't aligned or leaves the memory traps, and so do the bytes. Then
-- the address of each text stands in the list, and its bytes with a zero after them in the buffer
abbrev pub puts_texts : Guest → List (List ℕ) → ℕ → ℕ → CallFront
puts_texts g texts at buf = do
  memory ← free (texts_at g.memory texts at buf)
  answer (Nothing, record g { memory = memory })

unfoldable pub args_get : Guest → ℕ → ℕ → CallFront
args_get g argv argv_buf = puts_texts g g.holdings.args argv argv_buf

-- how many texts there are, and how many bytes they have with a zero after each; a number past 32 bits is refused
-- `overflow`
unfoldable pub args_sizes_get : Guest → CallFront
args_sizes_get g = tells g (sizes_of g.holdings.args) (λ sizes. sizes)

unfoldable pub environ_get : Guest → ℕ → ℕ → CallFront
environ_get g environ environ_buf = puts_texts g g.holdings.environ environ environ_buf

unfoldable pub environ_sizes_get : Guest → CallFront
environ_sizes_get g = tells g (sizes_of g.holdings.environ) (λ sizes. sizes)

-- An unknown clock is refused `inval`, that of a processor `badf`, and what 64 bits of nanoseconds don't hold
-- `overflow`. The answer is how far apart two moments of the clock are
unfoldable pub clock_res_get : Guest → ℕ → CallFront
clock_res_get g id = tells g (clock_res g.holdings id) (λ n. Number n)

-- the same of the moment that the clock stands at; its precision isn't used
unfoldable pub clock_time_get : Guest → ℕ → ℕ → CallFront
clock_time_get g id precision = tells g (clock_time g.holdings id) (λ n. Number n)

-- a status of 126 or more traps
unfoldable pub proc_exit : Guest → ℕ → CallFront
proc_exit g status = free (Err (exit_with status))

-- an unknown signal is refused `inval`, and every other `notsup`
unfoldable pub proc_raise : Guest → ℕ → CallFront
proc_raise g signal = do
  _ ← free (known_signal signal)
  free (Err (Errno errnos.Notsup))

-- a range that leaves the memory traps; then the next bytes stand there
unfoldable pub random_get : Guest → ℕ → ℕ → CallFront
random_get g buf buf_len = do
  _ ← free (range g.memory buf buf_len)
  answer (
    Nothing,
    record g {
      memory = with_bytes g.memory buf (random_bytes g.holdings buf_len);
      holdings = random_taken g.holdings buf_len;
    },
  )

-- nothing is done
unfoldable pub sched_yield : Guest → CallFront
sched_yield g = answer (Nothing, g)

-- an unknown bit is refused `inval`, then a number that isn't live; no number is a socket's
abbrev pub no_socket : Guest → ℕ → CallResult ℕ → CallFront
no_socket g fd flags = do
  _ ← free flags
  _ ← free (live_in (slice_get g.slots fd))
  free (Err (Errno errnos.Notsock))

unfoldable pub sock_accept : Guest → ℕ → ℕ → CallFront
sock_accept g fd flags = no_socket g fd (or_inval (flags_in known_fdflags flags))

unfoldable pub sock_recv : Guest → ℕ → ℕ → ℕ → ℕ → CallFront
sock_recv g fd iovs iovs_len ri_flags = no_socket g fd (or_inval (flags_in known_riflags ri_flags))

-- any number is a set of these flags
unfoldable pub sock_send : Guest → ℕ → ℕ → ℕ → ℕ → CallFront
sock_send g fd iovs iovs_len si_flags = no_socket g fd (give si_flags)

unfoldable pub sock_shutdown : Guest → ℕ → ℕ → CallFront
sock_shutdown g fd how = no_socket g fd (or_inval (flags_in known_sdflags how))
