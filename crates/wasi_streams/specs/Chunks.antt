-- The bytes that an input stream gives, while its file is unchanged.
use Rattle.std.specs.Prelude.{◌≡◌, ℕ, ◌+◌, min, true, List, [], ◌++◌, take, drop, Result, Ok, Err}
use Rattle.wasi_streams.specs.Input.{Input, ReadReply, taken, ready_spec, blocking_read_spec, waits, moved_by}
use Rattle.wasi_streams.specs.Reading.{HostSeen, HasRead, GivesAs, FollowsRead}
use Rattle.wasi_host.specs.Tree.{node_at, bytes_of}
use Rattle.wasi_streams.specs.declared.input.ReadState.{ReadState}
use Rattle.wasi_streams.specs.declared.input.ReadState.TheVariants.{Idle, Waiting, DataAvailable, Error, Closed}
use Rattle.wasi_streams.specs.declared.errors.StreamError.{StreamError}

-- the first of these bytes are those
abbrev pub IsPrefix : List ℕ → List ℕ → Type 0
IsPrefix front bytes = (more : List ℕ) × (bytes ≡ front ++ more)

-- the reply of a read from an offset on, of a file of these bytes: the next of them, or some code
abbrev pub FromFile : List ℕ → ℕ → ℕ → ReadReply → Type 0
FromFile bytes position size (Ok chunk) = chunk ≡ take (min size 65536) (drop position bytes)
FromFile bytes position size (Err code) = Unit {0}

-- what is left of a read are the file's bytes from the position on
abbrev pub IsNext : List ℕ → ℕ → ReadState → Type 0
IsNext bytes position Idle = Unit {0}
IsNext bytes position (Waiting size) = Unit {0}
IsNext bytes position (DataAvailable left) = IsPrefix left (drop position bytes)
IsNext bytes position (Error code) = Unit {0}
IsNext bytes position Closed = Unit {0}

-- the bytes that an answer gives
abbrev pub bytes_given : Result (List ℕ) StreamError → List ℕ
bytes_given (Ok bytes) = bytes
bytes_given (Err e) = []

-- one call of a stream over a file of these bytes: the stream before it, the bytes that it gives, and the stream then
pub data IsCall (bytes : List ℕ) : Input → List ℕ → Input → Type 0 where
  was_read : {s t : Input} (size : ℕ) (result : Result (List ℕ) StreamError)
      → GivesAs (taken s.state size) s.state result t.state → t.position ≡ s.position + moved_by result
      → IsCall bytes s (bytes_given result) t
  was_ready : {s t : Input} (result : Result (Unit {0}) StreamError)
      → FollowsRead (Unit {0}) (FromFile bytes s.position) (waits s.state) (ready_spec s.state) result t.state
      → t.position ≡ s.position → IsCall bytes s [] t
  was_blocking : {s t : Input} (size : ℕ) (result : Result (List ℕ) StreamError)
      → FollowsRead (Unit {0}) (FromFile bytes s.position) s.state (blocking_read_spec s.state size) result t.state
      → t.position ≡ s.position + moved_by result → IsCall bytes s (bytes_given result) t
  was_cancelled : {s t : Input} → t.state ≡ Closed → t.position ≡ s.position → IsCall bytes s [] t

-- calls in a row, and all bytes that they give, in order
pub data AreCalls (bytes : List ℕ) : Input → List ℕ → Input → Type 0 where
  no_call : {s : Input} → AreCalls bytes s [] s
  one_call_more : {s t u : Input} (chunk rest : List ℕ)
      → IsCall bytes s chunk t → AreCalls bytes t rest u → AreCalls bytes s (chunk ++ rest) u

-- the chunks of a stream in order are a prefix of its file's bytes from its position on
abbrev pub ChunksArePrefix : Type 0
ChunksArePrefix = (bytes chunks : List ℕ) (s t : Input) → IsNext bytes s.position s.state → AreCalls bytes s chunks t
    → IsPrefix chunks (drop s.position bytes)

-- a read of a modelled host gives the bytes of the file's node
abbrev pub ReadsAreFromFile : Type 0
ReadsAreFromFile = (old new : HostSeen) (file position size : ℕ) (reply : ReadReply) → HasRead true old new file position size reply
    → FromFile (bytes_of (node_at old.model.tree (old.model.held file).node).content) position size reply
