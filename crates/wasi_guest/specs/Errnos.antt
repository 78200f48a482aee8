-- Preview1's error numbers, and their names as a report gives them.
use Rattle.std.specs.Prelude.{ℕ, List, codes}
use Rattle.wasi_guest.specs.declared.errno.Errno.{Errno}
use Rattle.wasi_guest.specs.declared.errno.Errno.TheVariants as errno

-- preview1's name, in lower case
abbrev pub errno_name : Errno → List ℕ
errno_name errno.Acces = codes "acces"
errno_name errno.Again = codes "again"
errno_name errno.Already = codes "already"
errno_name errno.Badf = codes "badf"
errno_name errno.Busy = codes "busy"
errno_name errno.Deadlk = codes "deadlk"
errno_name errno.Dquot = codes "dquot"
errno_name errno.Exist = codes "exist"
errno_name errno.Fbig = codes "fbig"
errno_name errno.Ilseq = codes "ilseq"
errno_name errno.Inprogress = codes "inprogress"
errno_name errno.Intr = codes "intr"
errno_name errno.Inval = codes "inval"
errno_name errno.Io = codes "io"
errno_name errno.Isdir = codes "isdir"
errno_name errno.Loop = codes "loop"
errno_name errno.Mlink = codes "mlink"
errno_name errno.Msgsize = codes "msgsize"
errno_name errno.Nametoolong = codes "nametoolong"
errno_name errno.Nodev = codes "nodev"
errno_name errno.Noent = codes "noent"
errno_name errno.Nolck = codes "nolck"
errno_name errno.Nomem = codes "nomem"
errno_name errno.Nospc = codes "nospc"
errno_name errno.Notdir = codes "notdir"
errno_name errno.Notempty = codes "notempty"
errno_name errno.Notrecoverable = codes "notrecoverable"
errno_name errno.Notsock = codes "notsock"
errno_name errno.Notsup = codes "notsup"
errno_name errno.Notty = codes "notty"
errno_name errno.Nxio = codes "nxio"
errno_name errno.Overflow = codes "overflow"
errno_name errno.Perm = codes "perm"
errno_name errno.Pipe = codes "pipe"
errno_name errno.Rofs = codes "rofs"
errno_name errno.Spipe = codes "spipe"
errno_name errno.Txtbsy = codes "txtbsy"
errno_name errno.Xdev = codes "xdev"

-- preview1's number
abbrev pub errno_number : Errno → ℕ
errno_number errno.Acces = 2
errno_number errno.Again = 6
errno_number errno.Already = 7
errno_number errno.Badf = 8
errno_number errno.Busy = 10
errno_number errno.Deadlk = 16
errno_number errno.Dquot = 19
errno_number errno.Exist = 20
errno_number errno.Fbig = 22
errno_number errno.Ilseq = 25
errno_number errno.Inprogress = 26
errno_number errno.Intr = 27
errno_number errno.Inval = 28
errno_number errno.Io = 29
errno_number errno.Isdir = 31
errno_number errno.Loop = 32
errno_number errno.Mlink = 34
errno_number errno.Msgsize = 35
errno_number errno.Nametoolong = 37
errno_number errno.Nodev = 43
errno_number errno.Noent = 44
errno_number errno.Nolck = 46
errno_number errno.Nomem = 48
errno_number errno.Nospc = 51
errno_number errno.Notdir = 54
errno_number errno.Notempty = 55
errno_number errno.Notrecoverable = 56
errno_number errno.Notsock = 57
errno_number errno.Notsup = 58
errno_number errno.Notty = 59
errno_number errno.Nxio = 60
errno_number errno.Overflow = 61
errno_number errno.Perm = 63
errno_number errno.Pipe = 64
errno_number errno.Rofs = 69
errno_number errno.Spipe = 70
errno_number errno.Txtbsy = 74
errno_number errno.Xdev = 75
