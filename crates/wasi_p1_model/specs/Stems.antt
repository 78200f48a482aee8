-- From which descriptor another stems.
use Rattle.std.specs.Prelude.{ℕ, ◌==◌, ◌≡◌, List, [], ◌∷◌, slice_get, Some, if◌then◌else◌}
use Rattle.wasi_fs.specs.declared.perms.FsPerms.{FsPerms}
use Rattle.wasi_guest.specs.declared.answer.Answer.{Answer}
use Rattle.wasi_guest.specs.declared.answer.Answer.TheVariants as answers
use Rattle.wasi_guest.specs.declared.answer.Value.TheVariants.{Number}
use Rattle.wasi_guest.specs.declared.call.Call.{Call}
use Rattle.wasi_p1_types.specs.Front.{FueledCall}
use Rattle.wasi_p1_model.specs.Calls.{Stem, through, renumbering, stem_in}
use Rattle.wasi_p1_types.specs.Guest.{Guest, State, perms_in}
use Rattle.wasi_p1_model.specs.Trace.{TraceStep, Trace}

abbrev pub stems_by : Stem → Answer → ℕ → ℕ
stems_by (through fd) (answers.Ok (Number new)) n = if n == new then fd else n
stems_by (renumbering from to) (answers.Ok x) n = if n == to then from else n
stems_by stem answer n = n

-- The number, before a call, of the descriptor from which that of a number after it stems: what was opened stems from
-- the directory through which it was opened, what got another number from itself under the old one, and every other
-- descriptor from itself
abbrev pub stems_from : Call → Answer → ℕ → ℕ
stems_from call answer n = stems_by (stem_in call) answer n

-- the same before all of these turns
abbrev pub stem_of : List TraceStep → ℕ → ℕ
stem_of [] n = n
stem_of (t ∷ turns) n = stems_from t.call.call t.answer (stem_of turns n)

-- a number stands for a directory or file under these permissions
abbrev pub HasPerms : Guest → ℕ → FsPerms → Type 0
HasPerms g n perms = perms_in (slice_get g.slots n) ≡ Some perms

-- each descriptor has the permissions of the one before the run from which it stems; so all that is opened below a
-- directory that the guest is given has its permissions, for good
abbrev pub PermissionsStem : Type 0
PermissionsStem =
    (k : ℕ) (old new : State) (calls : List FueledCall) (turns : List TraceStep) → Trace k old calls turns new
    → (n : ℕ) (perms : FsPerms) → HasPerms new.guest n perms → HasPerms old.guest (stem_of turns n) perms
