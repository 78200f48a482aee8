-- What one call of the host changes at a place, as contracts see it.
use Rattle.wasi_resolve.specs.EntryOps.{EntryOp, CreateDir, RemoveFile, RemoveDir, Symlink, SetTimes, EntryAnswer}
use Rattle.wasi_resolve.specs.declared.entry_ops.Change.{Change}
use Rattle.wasi_resolve.specs.declared.entry_ops.Change.TheVariants as changes

abbrev pub change_call : Change → EntryOp
change_call changes.CreateDir = CreateDir
change_call changes.RemoveFile = RemoveFile
change_call changes.RemoveDir = RemoveDir
change_call (changes.Symlink text) = Symlink text.now
change_call (changes.SetTimes atime mtime) = SetTimes atime mtime

-- it answers nothing but that it was done
abbrev pub change_done : (change : Change) → Unit {0} → EntryAnswer (change_call change)
change_done changes.CreateDir unit = unit
change_done changes.RemoveFile unit = unit
change_done changes.RemoveDir unit = unit
change_done (changes.Symlink text) unit = unit
change_done (changes.SetTimes atime mtime) unit = unit
