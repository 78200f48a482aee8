-- Which error of a call a refusal of preview2 becomes.
use Rattle.std.specs.Prelude.{Result, Ok, Err}
use Rattle.wasi_guest.specs.declared.answer.TrapKind.TheVariants.{TableFull}
use Rattle.wasi_guest.specs.declared.errno.Errno.{Errno}
use Rattle.wasi_guest.specs.declared.errno.Errno.TheVariants as errnos
use Rattle.wasi_p1_types.specs.declared.error.P1Error.{P1Error}
use Rattle.wasi_p1_types.specs.declared.error.P1Error.TheVariants as errors
use Rattle.wasi_p2_types.specs.declared.error.FsError.{FsError}
use Rattle.wasi_p2_types.specs.declared.error.FsError.TheVariants.{Code, Trap, Memory}
use Rattle.wasi_p2_types.specs.declared.error_code.ErrorCode.{ErrorCode}
use Rattle.wasi_p2_types.specs.declared.error_code.ErrorCode.TheVariants as codes
use Rattle.wasi_streams.specs.declared.errors.TableError.{TableError}
use Rattle.wasi_streams.specs.declared.errors.TableError.TheVariants as tables

-- the error number of the same name
abbrev pub errno_named : ErrorCode → Errno
errno_named codes.Access = errnos.Acces
errno_named codes.WouldBlock = errnos.Again
errno_named codes.Already = errnos.Already
errno_named codes.BadDescriptor = errnos.Badf
errno_named codes.Busy = errnos.Busy
errno_named codes.Deadlock = errnos.Deadlk
errno_named codes.Quota = errnos.Dquot
errno_named codes.Exist = errnos.Exist
errno_named codes.FileTooLarge = errnos.Fbig
errno_named codes.IllegalByteSequence = errnos.Ilseq
errno_named codes.InProgress = errnos.Inprogress
errno_named codes.Interrupted = errnos.Intr
errno_named codes.Invalid = errnos.Inval
errno_named codes.Io = errnos.Io
errno_named codes.IsDirectory = errnos.Isdir
errno_named codes.Loop = errnos.Loop
errno_named codes.TooManyLinks = errnos.Mlink
errno_named codes.MessageSize = errnos.Msgsize
errno_named codes.NameTooLong = errnos.Nametoolong
errno_named codes.NoDevice = errnos.Nodev
errno_named codes.NoEntry = errnos.Noent
errno_named codes.NoLock = errnos.Nolck
errno_named codes.InsufficientMemory = errnos.Nomem
errno_named codes.InsufficientSpace = errnos.Nospc
errno_named codes.NotDirectory = errnos.Notdir
errno_named codes.NotEmpty = errnos.Notempty
errno_named codes.NotRecoverable = errnos.Notrecoverable
errno_named codes.Unsupported = errnos.Notsup
errno_named codes.NoTty = errnos.Notty
errno_named codes.NoSuchDevice = errnos.Nxio
errno_named codes.Overflow = errnos.Overflow
errno_named codes.NotPermitted = errnos.Perm
errno_named codes.Pipe = errnos.Pipe
errno_named codes.ReadOnly = errnos.Rofs
errno_named codes.InvalidSeek = errnos.Spipe
errno_named codes.TextFileBusy = errnos.Txtbsy
errno_named codes.CrossDevice = errnos.Xdev

-- a full table is a trap; a resource that is missing or of another kind is no descriptor
abbrev pub table_error_of : TableError → P1Error
table_error_of tables.Full = errors.Trap TableFull
table_error_of tables.NotPresent = errors.Errno errnos.Badf
table_error_of tables.WrongKind = errors.Errno errnos.Badf
table_error_of tables.Memory = errors.Memory

abbrev pub view_error_of : FsError → P1Error
view_error_of (Code code) = errors.Errno (errno_named code)
view_error_of (Trap refused) = table_error_of refused
view_error_of Memory = errors.Memory

-- an answer of a view, with a refusal as a call's
abbrev pub view_raised : {A : Type 0} → Result A FsError → Result A P1Error
view_raised (Ok x) = Ok x
view_raised (Err e) = Err (view_error_of e)
