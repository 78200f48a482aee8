-- Which error of a call a host's refusal becomes.
use Rattle.wasi_host.specs.declared.errors.ErrorCode.{ErrorCode}
use Rattle.wasi_host.specs.declared.errors.ErrorCode.TheVariants as codes
use Rattle.wasi_host.specs.declared.errors.HostError.{HostError}
use Rattle.wasi_host.specs.declared.errors.HostError.TheVariants as hosts
use Rattle.wasi_p1_types.specs.declared.error.P1Error.{P1Error}
use Rattle.wasi_p1_types.specs.declared.error.P1Error.TheVariants.{Errno as ByNumber, Memory}
use Rattle.wasi_guest.specs.declared.errno.Errno.{Errno}
use Rattle.wasi_guest.specs.declared.errno.Errno.TheVariants as errnos

-- the error number of the same name
abbrev pub errno_of : ErrorCode → Errno
errno_of codes.Access = errnos.Acces
errno_of codes.Already = errnos.Already
errno_of codes.BadDescriptor = errnos.Badf
errno_of codes.Busy = errnos.Busy
errno_of codes.Exist = errnos.Exist
errno_of codes.FileTooLarge = errnos.Fbig
errno_of codes.IllegalByteSequence = errnos.Ilseq
errno_of codes.InProgress = errnos.Inprogress
errno_of codes.Interrupted = errnos.Intr
errno_of codes.Invalid = errnos.Inval
errno_of codes.Io = errnos.Io
errno_of codes.IsDirectory = errnos.Isdir
errno_of codes.Loop = errnos.Loop
errno_of codes.TooManyLinks = errnos.Mlink
errno_of codes.NameTooLong = errnos.Nametoolong
errno_of codes.NoEntry = errnos.Noent
errno_of codes.InsufficientMemory = errnos.Nomem
errno_of codes.InsufficientSpace = errnos.Nospc
errno_of codes.NotDirectory = errnos.Notdir
errno_of codes.NotEmpty = errnos.Notempty
errno_of codes.Unsupported = errnos.Notsup
errno_of codes.Overflow = errnos.Overflow
errno_of codes.NotPermitted = errnos.Perm
errno_of codes.Pipe = errnos.Pipe
errno_of codes.InvalidSeek = errnos.Spipe

-- a host's refusal: its code as an error number, or out of memory
abbrev pub error_of : HostError → P1Error
error_of hosts.Memory = Memory
error_of (hosts.Code code) = ByNumber (errno_of code)
