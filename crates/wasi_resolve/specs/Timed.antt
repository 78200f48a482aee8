-- The two opens by which times are set, as a host's answers are seen.
use Rattle.std.specs.Prelude.{ℕ, Bool, true, false, List, [], ◌∷◌}
use Rattle.wasi_host.specs.Tree.{Tree}
use Rattle.wasi_host.specs.declared.errors.ErrorCode.TheVariants.{Access, IsDirectory, Unsupported}
use Rattle.wasi_host.specs.declared.errors.HostError.{HostError}
use Rattle.wasi_host.specs.declared.errors.HostError.TheVariants.{Code, Memory}
use Rattle.wasi_host.specs.declared.open_handle.OpenHandle.{OpenHandle}
use Rattle.wasi_resolve.specs.Paths.{opened, reading, or_else, access_unsupported, timed}
use Rattle.wasi_resolve.specs.Resolved.{Meant}

-- after these refusals of an open for writing, one for reading is tried
abbrev pub reads_after : HostError → Bool
reads_after Memory = false
reads_after (Code Access) = true
reads_after (Code IsDirectory) = true
reads_after (Code code) = false

-- where that is refused Access, nothing is left by which times could be set
abbrev pub read_refused : HostError → HostError
read_refused Memory = Memory
read_refused (Code Access) = Code Unsupported
read_refused (Code code) = Code code

-- an open for reading. What it touches at its end is touched again when the times are set.
abbrev pub read_at : Tree → ℕ → List ℕ → Meant OpenHandle
read_at t s text = record {
  starts = s ∷ [];
  answer = or_else access_unsupported (opened t s text reading true);
  stepped = t;
  ends = [];
}

-- what the times of a path are set through
abbrev pub timed_at : Tree → ℕ → List ℕ → Meant OpenHandle
timed_at t s text = record { starts = s ∷ []; answer = timed t s text; stepped = t; ends = [] }
