-- Which error numbers a call may be answered.
use Rattle.std.specs.Prelude.{Bool, true, false, IsTrue}
use Rattle.wasi_guest.specs.declared.answer.Answer.{Answer}
use Rattle.wasi_guest.specs.declared.answer.Answer.TheVariants as answers
use Rattle.wasi_guest.specs.declared.errno.Errno.{Errno}
use Rattle.wasi_guest.specs.declared.errno.Errno.TheVariants as errnos

-- these, and no other of preview1
abbrev pub may_be_answered : Errno → Bool
may_be_answered errnos.Acces = true
may_be_answered errnos.Badf = true
may_be_answered errnos.Busy = true
may_be_answered errnos.Dquot = true
may_be_answered errnos.Exist = true
may_be_answered errnos.Fbig = true
may_be_answered errnos.Ilseq = true
may_be_answered errnos.Intr = true
may_be_answered errnos.Inval = true
may_be_answered errnos.Io = true
may_be_answered errnos.Isdir = true
may_be_answered errnos.Loop = true
may_be_answered errnos.Mlink = true
may_be_answered errnos.Nametoolong = true
may_be_answered errnos.Noent = true
may_be_answered errnos.Nomem = true
may_be_answered errnos.Nospc = true
may_be_answered errnos.Notdir = true
may_be_answered errnos.Notempty = true
may_be_answered errnos.Notsock = true
may_be_answered errnos.Notsup = true
may_be_answered errnos.Overflow = true
may_be_answered errnos.Perm = true
may_be_answered errnos.Spipe = true
may_be_answered other = false

-- an answer that may come: one of these error numbers; or a value, a trap, or the guest's own end
abbrev pub MayCome : Answer → Type 0
MayCome (answers.Ok x) = Unit {0}
MayCome (answers.Errno e) = IsTrue (may_be_answered e)
MayCome (answers.Trap kind) = Unit {0}
MayCome (answers.Exit status) = Unit {0}
