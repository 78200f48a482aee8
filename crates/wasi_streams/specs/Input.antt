-- Input streams: what each call answers and leaves, by how the stream's read stands.
use Rattle.std.specs.Prelude.{ℕ, ◌+◌, ◌^◌, ◌<◌, ◌==◌, if◌then◌else◌, List, [], ◌∷◌, length, take, drop, Option, Some, None, Result, Ok, Err}
use Rattle.wasi_host.specs.declared.errors.ErrorCode.{ErrorCode}
use Rattle.wasi_streams.specs.declared.input.ReadState.{ReadState}
use Rattle.wasi_streams.specs.declared.input.ReadState.TheVariants.{Idle, Waiting, DataAvailable, Error, Closed}
use Rattle.wasi_streams.specs.declared.errors.StreamError.{StreamError}
use Rattle.wasi_streams.specs.declared.errors.StreamError.TheVariants as errors

-- the handle that a stream reads from, the offset of the next byte that it gives, and how its read stands
pub record Input : Type 0 where
  pub file : ℕ
  pub position : ℕ
  pub state : ReadState

-- the bytes that are left of a read end at an offset of 64 bits
abbrev pub IsInput : ℕ → ReadState → Type 0
IsInput position Idle = Unit {0}
IsInput position (Waiting size) = Unit {0}
IsInput position (DataAvailable bytes) = position + length bytes < 2 ^ 64
IsInput position (Error code) = Unit {0}
IsInput position Closed = Unit {0}

-- what a read of the file gave: bytes, or a code
abbrev pub ReadReply : Type 0
ReadReply = Result (List ℕ) ErrorCode

-- how a read stands once it is made: no bytes are the end
abbrev pub performed : ReadReply → ReadState
performed (Ok []) = Closed
performed (Ok (b ∷ bytes)) = DataAvailable (b ∷ bytes)
performed (Err code) = Error code

-- how a read stands of which these bytes are left
abbrev pub left : List ℕ → ReadState
left [] = Idle
left (b ∷ bytes) = DataAvailable (b ∷ bytes)

-- a read of no bytes isn't asked for
abbrev pub asked : ℕ → ReadState
asked size = if size == 0 then Idle else Waiting size

-- an answer, and how the stream's read stands afterwards
abbrev pub InputAnswer : Type 0 → Type 0
InputAnswer A = Result A StreamError × ReadState

-- a call asks nothing of the file, or makes one read, from whose reply its answer follows
pub data InputSpec (A : Type 0) : Type 0 where
  known : InputAnswer A → InputSpec A
  read_then : ℕ → (ReadReply → InputAnswer A) → InputSpec A

-- `read` of so many bytes
abbrev pub taken : ReadState → ℕ → InputAnswer (List ℕ)
taken Idle size = (Ok [], asked size)
taken (Waiting more) size = (Ok [], Waiting more)
taken (DataAvailable bytes) size = (Ok (take size bytes), left (drop size bytes))
taken (Error code) size = (Err (errors.LastOperationFailed code), Closed)
taken Closed size = (Err errors.Closed, Closed)

-- `ready`
abbrev pub ready_spec : ReadState → InputSpec (Unit {0})
ready_spec Idle = read_then 4096 (λ reply. (Ok tt, performed reply))
ready_spec (Waiting size) = read_then size (λ reply. (Ok tt, performed reply))
ready_spec (DataAvailable bytes) = known (Ok tt, DataAvailable bytes)
ready_spec (Error code) = known (Ok tt, Error code)
ready_spec Closed = known (Ok tt, Closed)

-- `blocking_read` of so many bytes
abbrev pub blocking_read_spec : ReadState → ℕ → InputSpec (List ℕ)
blocking_read_spec Idle size = read_then size (λ reply. taken (performed reply) size)
blocking_read_spec (Waiting more) size = read_then more (λ reply. taken (performed reply) size)
blocking_read_spec (DataAvailable bytes) size = known (taken (DataAvailable bytes) size)
blocking_read_spec (Error code) size = known (taken (Error code) size)
blocking_read_spec Closed size = known (taken Closed size)

-- what `ready` leaves where memory is wanted
abbrev pub waits : ReadState → ReadState
waits Idle = Waiting 4096
waits (Waiting size) = Waiting size
waits (DataAvailable bytes) = DataAvailable bytes
waits (Error code) = Error code
waits Closed = Closed

-- of how many bytes a read is to be made, so many where none was asked for
abbrev pub wanted : ReadState → ℕ → Option ℕ
wanted Idle size = Some size
wanted (Waiting more) size = Some more
wanted (DataAvailable bytes) size = None
wanted (Error code) size = None
wanted Closed size = None

-- by how much an answer moves the position: by the bytes that it gives
abbrev pub moved_by : Result (List ℕ) StreamError → ℕ
moved_by (Ok bytes) = length bytes
moved_by (Err e) = 0
