-- The codes of the crates below as those of preview2.
use Rattle.wasi_host.specs.declared.errors.ErrorCode.{ErrorCode as LowerCode}
use Rattle.wasi_host.specs.declared.errors.ErrorCode.TheVariants as lower
use Rattle.wasi_p2_types.specs.declared.error_code.ErrorCode.{ErrorCode}
use Rattle.wasi_p2_types.specs.declared.error_code.ErrorCode.TheVariants as codes

-- the code of the same name
abbrev pub code_named : LowerCode → ErrorCode
code_named lower.Access = codes.Access
code_named lower.Already = codes.Already
code_named lower.BadDescriptor = codes.BadDescriptor
code_named lower.Busy = codes.Busy
code_named lower.Exist = codes.Exist
code_named lower.FileTooLarge = codes.FileTooLarge
code_named lower.IllegalByteSequence = codes.IllegalByteSequence
code_named lower.InProgress = codes.InProgress
code_named lower.Interrupted = codes.Interrupted
code_named lower.Invalid = codes.Invalid
code_named lower.Io = codes.Io
code_named lower.IsDirectory = codes.IsDirectory
code_named lower.Loop = codes.Loop
code_named lower.TooManyLinks = codes.TooManyLinks
code_named lower.NameTooLong = codes.NameTooLong
code_named lower.NoEntry = codes.NoEntry
code_named lower.InsufficientMemory = codes.InsufficientMemory
code_named lower.InsufficientSpace = codes.InsufficientSpace
code_named lower.NotDirectory = codes.NotDirectory
code_named lower.NotEmpty = codes.NotEmpty
code_named lower.Unsupported = codes.Unsupported
code_named lower.Overflow = codes.Overflow
code_named lower.NotPermitted = codes.NotPermitted
code_named lower.Pipe = codes.Pipe
code_named lower.InvalidSeek = codes.InvalidSeek
