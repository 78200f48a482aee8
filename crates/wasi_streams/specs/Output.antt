-- Output streams: what each call answers and leaves, by how the stream's write stands.
use Rattle.std.specs.Prelude.{ℕ, ◌==◌, nat_lt, if◌then◌else◌, List, length, Option, Some, None, Result, Ok, Err}
use Rattle.wasi_host.specs.declared.errors.ErrorCode.TheVariants.{Io}
use Rattle.wasi_streams.specs.declared.output.FileOutputMode.{FileOutputMode}
use Rattle.wasi_streams.specs.declared.output.OutputState.{OutputState}
use Rattle.wasi_streams.specs.declared.output.OutputState.TheVariants.{Ready, Waiting, Error, Closed}
use Rattle.wasi_streams.specs.declared.errors.StreamError.{StreamError}
use Rattle.wasi_streams.specs.declared.errors.StreamError.TheVariants as errors
use Rattle.wasi_streams.specs.declared.errors.StreamTrap.TheVariants.{Budget, NotPermitted}

-- the handle that a stream writes to, where its next byte goes, and how its write stands
pub record Output : Type 0 where
  pub file : ℕ
  pub mode : FileOutputMode
  pub state : OutputState

-- an answer, and how the stream's write stands afterwards
abbrev pub OutputAnswer : Type 0 → Type 0
OutputAnswer A = Result A StreamError × OutputState

-- a call asks nothing of the file, or writes these bytes, and its answer follows from how that write stands then
pub data OutputSpec (A : Type 0) : Type 0 where
  answering : OutputAnswer A → OutputSpec A
  write_then : List ℕ → (OutputState → OutputSpec A) → OutputSpec A

-- `write`
abbrev pub write_spec : OutputState → List ℕ → OutputAnswer (Unit {0})
write_spec Ready bytes =
    if nat_lt 65536 (length bytes) then (Err (errors.Trap Budget), Ready) else (Ok tt, Waiting bytes)
write_spec (Waiting before) bytes = (Err (errors.Trap NotPermitted), Waiting before)
write_spec (Error code) bytes = (Err (errors.Trap NotPermitted), Error code)
write_spec Closed bytes = (Err errors.Closed, Closed)

-- `flush`
abbrev pub flush_spec : OutputState → OutputAnswer (Unit {0})
flush_spec Ready = (Ok tt, Ready)
flush_spec (Waiting bytes) = (Ok tt, Waiting bytes)
flush_spec (Error code) = (Err (errors.LastOperationFailed code), Closed)
flush_spec Closed = (Err errors.Closed, Closed)

-- `check_write`
abbrev pub check_write_spec : OutputState → OutputAnswer ℕ
check_write_spec Ready = (Ok 65536, Ready)
check_write_spec (Waiting bytes) = (Ok 0, Waiting bytes)
check_write_spec (Error code) = (Err (errors.LastOperationFailed code), Closed)
check_write_spec Closed = (Err errors.Closed, Closed)

-- how a write stands after a call of the host that took so many of so many bytes; none where it goes on
abbrev pub stands_after : ℕ → ℕ → Option OutputState
stands_after taken all =
    if taken == all then Some Ready
    else if taken == 0 then Some (Error Io)
    else None

-- a write is over, but for what memory ran out for
abbrev pub write_made : OutputState → OutputAnswer (Unit {0})
write_made Ready = (Ok tt, Ready)
write_made (Waiting rest) = (Err errors.Memory, Waiting rest)
write_made (Error code) = (Ok tt, Error code)
write_made Closed = (Ok tt, Closed)

-- the same of a call that tells the code that it was refused with
abbrev pub flushed : OutputState → OutputAnswer (Unit {0})
flushed Ready = (Ok tt, Ready)
flushed (Waiting rest) = (Err errors.Memory, Waiting rest)
flushed (Error code) = (Err (errors.LastOperationFailed code), Closed)
flushed Closed = (Err errors.Closed, Closed)

-- `ready`
abbrev pub ready_write_spec : OutputState → OutputSpec (Unit {0})
ready_write_spec (Waiting bytes) = write_then bytes (λ state. answering (write_made state))
ready_write_spec Ready = answering (Ok tt, Ready)
ready_write_spec (Error code) = answering (Ok tt, Error code)
ready_write_spec Closed = answering (Ok tt, Closed)

-- `blocking_write_and_flush`: what waits is written first
abbrev pub write_now : OutputState → List ℕ → OutputSpec (Unit {0})
write_now Ready bytes = write_then bytes (λ state. answering (flushed state))
write_now (Waiting rest) bytes = answering (flushed (Waiting rest))
write_now (Error code) bytes = answering (flushed (Error code))
write_now Closed bytes = answering (flushed Closed)

abbrev pub blocking_write_spec : OutputState → List ℕ → OutputSpec (Unit {0})
blocking_write_spec Ready bytes = write_now Ready bytes
blocking_write_spec (Waiting before) bytes = write_then before (λ state. write_now state bytes)
blocking_write_spec (Error code) bytes = write_now (Error code) bytes
blocking_write_spec Closed bytes = write_now Closed bytes
