-- A call is refused `Io` only where the call below it was.
use Rattle.std.proofs.Common.{◌≡◌, Result, Ok, Err, refl, ap}
use Rattle.wasi_host.specs.HostLaws.{FaultCount, HasCause}
use Rattle.wasi_host.specs.declared.errors.ErrorCode.{ErrorCode as LowerCode}
use Rattle.wasi_host.specs.declared.errors.ErrorCode.TheVariants as lower
use Rattle.wasi_host.specs.declared.errors.HostError.{HostError}
use Rattle.wasi_host.specs.declared.errors.HostError.TheVariants as hosts
use Rattle.wasi_p2_types.specs.ErrorCodes.{code_named}
use Rattle.wasi_p2_types.specs.FsErrors.{fs_error, FsCause}
use Rattle.wasi_p2_types.specs.declared.error.FsError.TheVariants.{Code}
use Rattle.wasi_p2_types.specs.declared.error_code.ErrorCode.TheVariants.{Io}

-- only the code of this name becomes `Io`
pub io_named : (code : LowerCode) → code_named code ≡ Io → code ≡ lower.Io
io_named lower.Access is = absurd (cc)
io_named lower.Already is = absurd (cc)
io_named lower.BadDescriptor is = absurd (cc)
io_named lower.Busy is = absurd (cc)
io_named lower.Exist is = absurd (cc)
io_named lower.FileTooLarge is = absurd (cc)
io_named lower.IllegalByteSequence is = absurd (cc)
io_named lower.InProgress is = absurd (cc)
io_named lower.Interrupted is = absurd (cc)
io_named lower.Invalid is = absurd (cc)
io_named lower.Io is = refl
io_named lower.IsDirectory is = absurd (cc)
io_named lower.Loop is = absurd (cc)
io_named lower.TooManyLinks is = absurd (cc)
io_named lower.NameTooLong is = absurd (cc)
io_named lower.NoEntry is = absurd (cc)
io_named lower.InsufficientMemory is = absurd (cc)
io_named lower.InsufficientSpace is = absurd (cc)
io_named lower.NotDirectory is = absurd (cc)
io_named lower.NotEmpty is = absurd (cc)
io_named lower.Unsupported is = absurd (cc)
io_named lower.Overflow is = absurd (cc)
io_named lower.NotPermitted is = absurd (cc)
io_named lower.Pipe is = absurd (cc)
io_named lower.InvalidSeek is = absurd (cc)

-- only the host's own `Io` is told as `Io`
pub io_raised : (e : HostError) → fs_error e ≡ Code Io → e ≡ hosts.Code lower.Io
io_raised (hosts.Code code) is =
    let same : code_named code ≡ Io = cc in ap hosts.Code (io_named code same)
io_raised hosts.Memory is = absurd (cc)

pub cause_err : {A B : Type 0} {before now : FaultCount} (e : HostError) → HasCause {A = A} before now (Err e)
    → FsCause {A = B} before now (Err (fs_error e))
cause_err {A} {B} e cause = record {
  later = cause.later;
  most = cause.most;
  io = λ is. cause.io (let same : fs_error e ≡ Code Io = cc in ap (λ x. let r : Result A HostError = Err x in r) (io_raised e same));
}

pub cause_ok : {A B : Type 0} {before now : FaultCount} {a : A} {b : B} → HasCause before now (Ok a) → FsCause before now (Ok b)
cause_ok cause = record { later = cause.later; most = cause.most; io = λ is. absurd (cc) }
