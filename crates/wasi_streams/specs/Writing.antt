-- What a call of an output stream does over a host.
use Rattle.std.specs.Prelude.{◌≡◌, ℕ, ◌+◌, ◌^◌, ◌<◌, ◌≤◌, Bool, IsTrue, List, length, drop, Result, Ok, Err, IfOk, OnOk}
use Rattle.wasi_host.specs.HostCall as calls
use Rattle.wasi_host.specs.HostLaws.{HasCause, Rose, RefinesCall}
use Rattle.wasi_host.specs.declared.errors.ErrorCode.TheVariants.{Io}
use Rattle.wasi_host.specs.declared.errors.HostError.{HostError}
use Rattle.wasi_host.specs.declared.errors.HostError.TheVariants.{Code, Memory as Wanted}
use Rattle.wasi_streams.specs.Output.{OutputSpec, answering, write_then}
use Rattle.wasi_streams.specs.Reading.{HostSeen}
use Rattle.wasi_streams.specs.declared.output.FileOutputMode.{FileOutputMode}
use Rattle.wasi_streams.specs.declared.output.FileOutputMode.TheVariants.{Position, Append}
use Rattle.wasi_streams.specs.declared.output.OutputState.{OutputState}
use Rattle.wasi_streams.specs.declared.output.OutputState.TheVariants.{Ready, Waiting, Error}
use Rattle.wasi_streams.specs.declared.errors.StreamError.{StreamError}

-- where the next byte goes, so many bytes later: only an offset rises
abbrev pub behind : FileOutputMode → ℕ → FileOutputMode
behind (Position offset) n = Position (offset + n)
behind Append n = Append

-- an offset that a file may have
abbrev pub IsInside : FileOutputMode → Type 0
IsInside (Position offset) = offset < 2 ^ 63
IsInside Append = Unit {0}

-- a modelled host put the bytes at the offset, or after the file's last one
abbrev pub PutTold : HostSeen → HostSeen → ℕ → FileOutputMode → List ℕ → Result ℕ HostError → Type 0
PutTold old new file (Position offset) piece reply =
    RefinesCall old.live new.live old.model new.model (calls.Pwrite (old.model.held file) offset piece) (λ n. n) reply
PutTold old new file Append piece reply =
    RefinesCall old.live new.live old.model new.model (calls.Append (old.model.held file) piece) (λ n. n) reply

-- one call of the host put the front of a piece into the file, or was refused
pub record Puts (modelled : Bool) (file : ℕ) (old new : HostSeen) (mode : FileOutputMode) (piece : List ℕ) (reply : Result ℕ HostError) : Type 0 where
  pub cause : HasCause old.faults new.faults reply
  pub stays : new.live ≡ old.live
  pub logged : new.lookups ≡ old.lookups
  pub fits : IfOk reply (λ n. n ≤ length piece)
  pub takes : reply ≡ Ok 0 → 0 < length piece → Rose old.faults new.faults
  pub inside : OnOk reply (IsInside mode)
  pub meaning : IsTrue modelled → PutTold old new file mode piece reply

-- how a write stands that was refused, with what isn't taken
abbrev pub stopped : HostError → List ℕ → OutputState
stopped (Code code) rest = Error code
stopped Wanted rest = Waiting rest

-- A piece is written: the host is asked at least once, and until all is taken. Then come the host as it is left, where
-- the byte after what was taken goes, and how the stream's write stands.
pub data WritesAll (modelled : Bool) (file : ℕ) : HostSeen → FileOutputMode → List ℕ → HostSeen → FileOutputMode → OutputState → Type 0 where
  -- all that was left is taken
  all_of_it : {old new : HostSeen} {mode : FileOutputMode} {piece : List ℕ} {n : ℕ}
      → Puts modelled file old new mode piece (Ok n) → n ≡ length piece
      → WritesAll modelled file old mode piece new (behind mode n) Ready
  -- a front of it, and the rest goes on
  a_front : {old next new : HostSeen} {mode end : FileOutputMode} {piece : List ℕ} {n : ℕ} {state : OutputState}
      → Puts modelled file old next mode piece (Ok n) → 0 < n → n < length piece
      → WritesAll modelled file next (behind mode n) (drop n piece) new end state
      → WritesAll modelled file old mode piece new end state
  -- nothing of it, though it isn't empty
  stuck : {old new : HostSeen} {mode : FileOutputMode} {piece : List ℕ}
      → Puts modelled file old new mode piece (Ok 0) → 0 < length piece
      → WritesAll modelled file old mode piece new mode (Error Io)
  -- a refusal, or out of memory
  failed : {old new : HostSeen} {mode : FileOutputMode} {piece : List ℕ} {error : HostError}
      → Puts modelled file old new mode piece (Err error)
      → WritesAll modelled file old mode piece new mode (stopped error piece)

-- what the specification says, from this host and this place to those after
abbrev pub FollowsWrite : {A : Type 0} → Bool → ℕ → HostSeen → FileOutputMode → OutputSpec A → Result A StreamError → HostSeen
    → FileOutputMode → OutputState → Type 0
FollowsWrite modelled file old mode (answering given) result new end state =
    (new ≡ old) × (end ≡ mode) × ((result, state) ≡ given)
FollowsWrite modelled file old mode (write_then piece next) result new end state =
    (mid : HostSeen) × (at : FileOutputMode) × (left : OutputState) × WritesAll modelled file old mode piece mid at left
    × FollowsWrite modelled file mid at (next left) result new end state
