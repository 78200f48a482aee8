-- What a call of an input stream does over a host.
use Rattle.std.specs.Prelude.{◌≡◌, ◌⊎◌, ℕ, ◌^◌, ◌<◌, ◌≤◌, min, Bool, IsTrue, List, length, Result, Ok, Err, IfOk, OnOk}
use Rattle.std.specs.declared.alloc.AllocError.{AllocError}
use Rattle.wasi_host.specs.HostCall.{Pread}
use Rattle.wasi_host.specs.HostLaws.{HostModel, Handles, HasCause, RefinesCall, hosted, FaultCount}
use Rattle.wasi_host.specs.declared.lookup.Lookup.{Lookup}
use Rattle.wasi_streams.specs.Input.{ReadReply, InputSpec, known, read_then, InputAnswer}
use Rattle.wasi_streams.specs.declared.input.ReadState.{ReadState}
use Rattle.wasi_streams.specs.declared.errors.StreamError.{StreamError}
use Rattle.wasi_streams.specs.declared.errors.StreamError.TheVariants.{Memory}

-- what a host says of itself: its count of faults, its live handles, its lookups, and its model
pub record HostSeen : Type 0 where
  pub faults : FaultCount
  pub live : Handles
  pub lookups : List Lookup
  pub model : HostModel

abbrev pub host_seen : {H : Type 0} → (H → FaultCount) → (H → Handles) → (H → List Lookup) → (H → HostModel) → H → HostSeen
host_seen faults live lookups model host =
    record { faults = faults host; live = live host; lookups = lookups host; model = model host }

-- one read of at most so many bytes was made of the host, with this reply
pub record HasRead (modelled : Bool) (old new : HostSeen) (file position size : ℕ) (reply : ReadReply) : Type 0 where
  pub cause : HasCause old.faults new.faults (hosted reply)
  pub stays : new.live ≡ old.live
  pub logged : new.lookups ≡ old.lookups
  pub fits : IfOk reply (λ bytes. length bytes ≤ min size 65536)
  pub offset : OnOk reply (position < 2 ^ 63)
  pub meaning : IsTrue modelled → RefinesCall old.live new.live old.model new.model
      (Pread (old.model.held file) position (min size 65536)) (λ bytes. bytes) (hosted reply)

-- the answer and what is left are these; or memory ran out, and this is left
abbrev pub GivesAs : {A : Type 0} → InputAnswer A → ReadState → Result A StreamError → ReadState → Type 0
GivesAs given stays (Ok a) new = (Ok a, new) ≡ given
GivesAs given stays (Err Memory) new = new ≡ stays
GivesAs given stays (Err e) new = (Err e, new) ≡ given

-- what the specification says, where reads of so many bytes may have such replies; what is left where memory is wanted
abbrev pub FollowsRead : {A : Type 0} → Type 0 → (ℕ → ReadReply → Type 0) → ReadState → InputSpec A → Result A StreamError → ReadState
    → Type 0
FollowsRead quiet reads stays (known given) result new = quiet × GivesAs given stays result new
FollowsRead quiet reads stays (read_then size next) (Ok a) new = (reply : ReadReply) × reads size reply × ((Ok a, new) ≡ next reply)
FollowsRead quiet reads stays (read_then size next) (Err Memory) new =
    (quiet ⊎ ((reply : ReadReply) × reads size reply)) × (new ≡ stays)
FollowsRead quiet reads stays (read_then size next) (Err e) new = (reply : ReadReply) × reads size reply × ((Err e, new) ≡ next reply)

-- the answer of a call that is only refused for out of memory
abbrev pub ready_of : Result (Unit {0}) AllocError → Result (Unit {0}) StreamError
ready_of (Ok unit) = Ok tt
ready_of (Err e) = Err Memory
