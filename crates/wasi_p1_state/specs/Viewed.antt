-- What the calls of views do, in the words of the calls of what a number stands for.
use Rattle.std.specs.Prelude.{◌≡◌, ℕ, List, Option, Some, None, Result, Ok, Err, IfOk}
use Rattle.std.specs.FinMap.{get, insert}
use Rattle.wasi_fs.specs.Calls.{open_mode_of, opened_of, opens, perms_of, GotOpened, IsAsked, LiveOpened}
use Rattle.wasi_fs.specs.OpenHow.{may_open, mode_of, OpenHow}
use Rattle.wasi_fs.specs.declared.descriptor.Descriptor.{Descriptor}
use Rattle.wasi_fs.specs.declared.descriptor.Dir.{Dir}
use Rattle.wasi_host.specs.Provenance.{HasProvenance, Only, Nothing}
use Rattle.wasi_host.specs.declared.host.Host.{Ghosts}
use Rattle.wasi_resolve.specs.PathRequest.{meant_by}
use Rattle.wasi_streams.specs.Table.{Entries}
use Rattle.wasi_streams.specs.declared.entry.Entry.TheVariants.{Descriptor as AnOpened}
use Rattle.wasi_streams.specs.declared.table.Resource.{Resource}
use Rattle.wasi_p1_types.specs.Numbering.{free_number, with_new}
use Rattle.wasi_p1_types.specs.declared.slots.FileModes.{FileModes}
use Rattle.wasi_host.specs.declared.errors.HostError.{HostError}
use Rattle.wasi_p1_types.specs.Slots.{descriptor_in, is_closed_slot, slot_of}
use Rattle.wasi_p1_types.specs.ViewErrors.{view_raised}
use Rattle.wasi_p1_types.specs.declared.error.P1Error.{P1Error}
use Rattle.wasi_p1_types.specs.declared.slots.Slot.{Slot}
use Rattle.wasi_p2_types.specs.FsErrors.{fs_error, raised}
use Rattle.wasi_p2_calls.specs.Views.{Performs}
use Rattle.wasi_p2_types.specs.declared.error.FsError.{FsError}

-- what a directory's or file's number stands for
abbrev pub descriptor_under : Option Slot → Option Descriptor
descriptor_under (Some slot) = descriptor_in slot
descriptor_under None = None

-- the lower call was made, and its answer is shown
abbrev pub Lowered : {A B : Type 0} → (A → B) → (Result A HostError → Type 0) → Result B FsError → Type 0
Lowered {A = A} shown Did result = (answer : Result A HostError) × (result ≡ raised shown answer) × Did answer

-- the same, with a refusal as a call's
abbrev pub LoweredTo : {A B : Type 0} → (A → B) → (Result A HostError → Type 0) → Result B P1Error → Type 0
LoweredTo {A = A} shown Did result =
    (answer : Result A HostError) × (result ≡ view_raised (raised shown answer)) × Did answer

-- an open below a directory, which gave this or was refused so
pub record OpenedBelow {H : Type 0} (host : Ghosts H) (old new : H) (dir : Dir) (path : List ℕ) (how : OpenHow)
    (answer : Result Descriptor HostError) : Type 0 where
  pub live : LiveOpened (host.live old) answer (host.live new)
  pub provenance : HasProvenance (Only dir.dir) Nothing (GotOpened answer) (host.lookups old) (host.lookups new)
  pub perms : IfOk answer (λ d. perms_of d ≡ dir.perms)
  pub mode : IfOk answer (λ d. open_mode_of d ≡ mode_of how)
  pub kind : IfOk answer (IsAsked how.directory)
  pub performs : Performs host old new (may_open how dir.perms)
      (meant_by (host.model old).tree (opens ((host.model old).held dir.dir).node path how))
      (opened_of (host.model new).held) answer

-- the same, where what was opened is put somewhere, and a refusal leaves that
abbrev pub Opens : {H A : Type 0} → Ghosts H → H → H → Dir → List ℕ → OpenHow → (A → Descriptor → Type 0) → Type 0
    → Result A FsError → Type 0
Opens host old new dir path how Put same (Ok a) =
    (d : Descriptor) × Put a d × OpenedBelow host old new dir path how (Ok d)
Opens host old new dir path how Put same (Err e) =
    (error : HostError) × (e ≡ fs_error error) × same × OpenedBelow host old new dir path how (Err error)

-- as an entry of the table, under a number that was free
abbrev pub PutEntry : Entries → Entries → Resource → Descriptor → Type 0
PutEntry table table' r d = (get table r.number ≡ None) × (table' ≡ insert table r.number (AnOpened d))

-- as a descriptor, under its number
abbrev pub PutDescriptor : List Slot → List Slot → FileModes → ℕ → Descriptor → Type 0
PutDescriptor table table' modes n d =
    (n ≡ free_number is_closed_slot table) × (table' ≡ with_new is_closed_slot table (slot_of modes d))
