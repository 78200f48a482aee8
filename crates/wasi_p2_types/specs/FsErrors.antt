-- The refusals of the crates below as those of a view's calls.
use Rattle.std.specs.Prelude.{◌≡◌, ◌≤◌, Option, Some, None, Result, Ok, Err}
use Rattle.wasi_host.specs.HostLaws.{Rose, FaultCount}
use Rattle.wasi_host.specs.declared.errors.HostError.{HostError}
use Rattle.wasi_host.specs.declared.errors.HostError.TheVariants as hosts
use Rattle.wasi_streams.specs.declared.errors.TableError.{TableError}
use Rattle.wasi_streams.specs.declared.errors.TableError.TheVariants as tables
use Rattle.wasi_streams.specs.declared.errors.StreamError.{StreamError}
use Rattle.wasi_streams.specs.declared.errors.StreamError.TheVariants as streams
use Rattle.wasi_p2_types.specs.ErrorCodes.{code_named}
use Rattle.wasi_p2_types.specs.declared.error.FsError.{FsError}
use Rattle.wasi_p2_types.specs.declared.error.FsError.TheVariants.{Code, Trap, Memory}
use Rattle.wasi_p2_types.specs.declared.error_code.ErrorCode.{ErrorCode}
use Rattle.wasi_p2_types.specs.declared.error_code.ErrorCode.TheVariants.{Io}

-- a refusal of a host, or of a call that makes its calls
abbrev pub fs_error : HostError → FsError
fs_error (hosts.Code code) = Code (code_named code)
fs_error hosts.Memory = Memory

-- a refusal of the table: a trap, but for out of memory
abbrev pub table_error : TableError → FsError
table_error tables.Full = Trap tables.Full
table_error tables.NotPresent = Trap tables.NotPresent
table_error tables.WrongKind = Trap tables.WrongKind
table_error tables.Memory = Memory

-- a lower call's answer, as it is shown
abbrev pub raised : {A B : Type 0} → (A → B) → Result A HostError → Result B FsError
raised shown (Ok a) = Ok (shown a)
raised shown (Err e) = Err (fs_error e)

-- the count of faults never falls, what it is at most stays, and `Io` comes only where it rose
pub record FsCause {A : Type 0} (before now : FaultCount) (result : Result A FsError) : Type 0 where
  pub later : before.count ≤ now.count
  pub most : now.most ≡ before.most
  pub io : result ≡ Err (Code Io) → Rose before now

-- the code of a refusal, or the refusal where it has none
abbrev pub code_of_error : FsError → Result ErrorCode FsError
code_of_error (Code code) = Ok code
code_of_error (Trap refused) = Err (Trap refused)
code_of_error Memory = Err Memory

-- the code that a stream's read or write was refused with
abbrev pub stream_code : StreamError → Option ErrorCode
stream_code (streams.LastOperationFailed code) = Some (code_named code)
stream_code streams.Closed = None
stream_code (streams.Trap rule) = None
stream_code streams.Memory = None
