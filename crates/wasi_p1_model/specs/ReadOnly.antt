-- What calls under read-only permissions leave.
use Rattle.std.specs.Prelude.{ℕ, ◌≡◌, ◌⊎◌, List}
use Rattle.wasi_fs.specs.declared.perms.FsPerms.{FsPerms}
use Rattle.wasi_fs.specs.declared.perms.FsPerms.TheVariants.{ReadOnly}
use Rattle.wasi_p1_model.specs.CallTransition.{NamesUnder}
use Rattle.wasi_p1_types.specs.Front.{FueledCall}
use Rattle.wasi_p1_types.specs.Guest.{Guest, State}
use Rattle.wasi_p1_model.specs.Trace.{TraceStep, Trace, Played, Faulted}
use Rattle.wasi_p1_model.specs.Stems.{HasPerms}

-- all directories and files that a guest has are under read-only permissions
abbrev pub IsReadOnlyGuest : Guest → Type 0
IsReadOnlyGuest g = (n : ℕ) (perms : FsPerms) → HasPerms g n perms → perms ≡ ReadOnly

-- a turn that names one under read-only permissions leaves the tree, whatever it answers, faulted or not
abbrev pub ReadOnlyTurnsLeaveTheTree : Type 0
ReadOnlyTurnsLeaveTheTree =
    (t : TraceStep) → Played t ⊎ Faulted t → NamesUnder ReadOnly t.before.guest t.call.call → t.after.tree ≡ t.before.tree

-- a run of a guest whose directories and files are all read-only leaves the tree, however many turns are faulted
abbrev pub ReadOnlyRunsLeaveTheTree : Type 0
ReadOnlyRunsLeaveTheTree =
    (k : ℕ) (old new : State) (calls : List FueledCall) (turns : List TraceStep) → Trace k old calls turns new
    → IsReadOnlyGuest old.guest → new.tree ≡ old.tree
