-- What the parts of a call give, in the words of its specification.
use Rattle.std.specs.Prelude.{◌≡◌, ◌⊎◌, ℕ, Bool, true, false, List, length, Option, Some, None, Ok, Err}
use Rattle.std.specs.FinSet.{contains}
use Rattle.wasi_fs.specs.Calls.{opens, handle_of, perms_of}
use Rattle.wasi_fs.specs.OpenHow.{OpenHow, mode_of}
use Rattle.wasi_fs.specs.declared.descriptor.Descriptor.{Descriptor}
use Rattle.wasi_fs.specs.declared.descriptor.Dir.{Dir}
use Rattle.wasi_host.specs.HostCall.{Pread, Pwrite}
use Rattle.wasi_host.specs.HostLaws.{HostModel, Handles, Keeps}
use Rattle.wasi_host.specs.declared.errors.HostError.{HostError}
use Rattle.wasi_host.specs.declared.errors.ErrorCode.{ErrorCode}
use Rattle.wasi_host.specs.declared.open_handle.OpenHandle.{OpenHandle}
use Rattle.wasi_p1_types.specs.Asked.{Does}
use Rattle.wasi_p1_types.specs.Errnos.{errno_of, error_of}
use Rattle.wasi_p1_types.specs.Request.{Request, Reply, MayReply, Path, Direct}
use Rattle.wasi_p1_types.specs.CallResult.{CallResult, give}
use Rattle.wasi_p1_types.specs.SpecParts.{OpenNode, opened_among, ReadTarget, input, from, WriteTarget, output, into}
use Rattle.wasi_guest.specs.Range.{with_bytes}
use Rattle.wasi_guest.specs.declared.errno.Errno.TheVariants as errnos
use Rattle.wasi_p1_types.specs.Guest.{OpenFile, GuestSlot, guest_slots, file_by}
use Rattle.wasi_p1_types.specs.declared.error.P1Error.{P1Error}
use Rattle.wasi_p1_types.specs.declared.error.P1Error.TheVariants.{Errno, Memory}
use Rattle.wasi_p1_types.specs.declared.slots.Slot.{Slot}
use Rattle.wasi_p1_types.specs.declared.slots.Slot.TheVariants as slots
use Rattle.wasi_p1_types.specs.declared.slots.FileModes.{FileModes}
use Rattle.wasi_p1_types.specs.declared.slots.FileSlot.{FileSlot}
use Rattle.wasi_p1_types.specs.declared.usage.ReadTarget.{ReadTarget as ReadPlace}
use Rattle.wasi_p1_types.specs.declared.usage.ReadTarget.TheVariants as sources
use Rattle.wasi_p1_types.specs.declared.usage.WriteTarget.{WriteTarget as WritePlace}
use Rattle.wasi_p1_types.specs.declared.usage.WriteTarget.TheVariants as sinks

-- a file's descriptor, with what its handle stands for in place of the handle
abbrev pub open_file_of : (ℕ → OpenHandle) → FileSlot → OpenFile
open_file_of held f = file_by (held f.file.file) f

-- the node of a directory or file, and what is permitted of it
abbrev pub open_node_of : (ℕ → OpenHandle) → Descriptor → OpenNode
open_node_of held descriptor = record { node = (held (handle_of descriptor)).node; perms = perms_of descriptor }

abbrev pub open_directory_of : (ℕ → OpenHandle) → Dir → OpenNode
open_directory_of held dir = record { node = (held dir.dir).node; perms = dir.perms }

-- A part that asks for something, which may not be permitted: then it is refused so, or memory ran out first, and
-- the host is as it was
abbrev pub Refused : {A H : Type 0} → Option ErrorCode → CallResult A → H → H → Type 0
Refused None result old new = Unit {0}
Refused (Some code) result old new = ((result ≡ Err (Errno (errno_of code))) ⊎ (result ≡ Err Memory)) × (new ≡ old)

-- a part that asks the host only where something isn't known: what is made of it where it is, and the host is as it was
abbrev pub Knows : {A B H : Type 0} → Option B → (B → CallResult A) → CallResult A → H → H → Type 0
Knows None part result old new = Unit {0}
Knows (Some known) part result old new = (result ≡ part known) × (new ≡ old)

-- a request made by a call that leaves what the live handles stand for
pub record Makes {A : Type 0} (rose : Type 0) (old : Handles) (w v : HostModel) (r : Request) (next : Reply r → CallResult A)
    (result : CallResult A) : Type 0 where
  pub keeps : (h : ℕ) → contains old h ≡ true → v.held h ≡ w.held h
  pub does : Does rose w v r next result

-- an answer beside what changed
abbrev pub with_after : {A B : Type 0} → CallResult A → B → CallResult (A × B)
with_after (Ok x) after = Ok (x, after)
with_after (Err e) after = Err e

-- an open into the descriptors
abbrev pub OpensInto : Type 0 → HostModel → HostModel → OpenNode → List ℕ → OpenHow → FileModes → List GuestSlot → List GuestSlot
    → CallResult ℕ → Type 0
OpensInto rose w v d text how modes before after result = Does rose w v (Path (opens d.node text how))
    (opened_among before d.perms (mode_of how) modes) (with_after result after)

-- a number beside the memory after it: bytes were read into a buffer
abbrev pub filled_at : List ℕ → ℕ → List ℕ → CallResult (ℕ × List ℕ)
filled_at memory buf bytes = give (length bytes, with_bytes memory buf bytes)

-- a read into memory
abbrev pub ReadsInto : Type 0 → Handles → HostModel → HostModel → OpenHandle → ℕ → ℕ → ℕ → List ℕ → List ℕ → CallResult ℕ → Type 0
ReadsInto rose old w v f position buf size before after result =
    Makes rose old w v (Direct (Pread f position size)) (filled_at before buf) (with_after result after)

-- a write of a piece
abbrev pub WritesPiece : Type 0 → Handles → HostModel → HostModel → OpenHandle → ℕ → List ℕ → CallResult ℕ → Type 0
WritesPiece rose old w v f position piece result = Makes rose old w v (Direct (Pwrite f position piece)) give result

-- what is read or written by a number, with what a file's handle stands for in place of the handle
abbrev pub read_target_of : (ℕ → OpenHandle) → ReadPlace → ReadTarget
read_target_of held sources.Input = input
read_target_of held (sources.File file) = from (open_file_of held file)

abbrev pub write_target_of : (ℕ → OpenHandle) → WritePlace → WriteTarget
write_target_of held (sinks.Output o) = output o
write_target_of held (sinks.File file) = into (open_file_of held file)

-- what holds of a file that is read or written
abbrev pub OfReadTarget : (FileSlot → Type 0) → ReadPlace → Type 0
OfReadTarget P sources.Input = Unit {0}
OfReadTarget P (sources.File file) = P file

abbrev pub OfWriteTarget : (FileSlot → Type 0) → WritePlace → Type 0
OfWriteTarget P (sinks.Output o) = Unit {0}
OfWriteTarget P (sinks.File file) = P file

-- some reply of a request leads to this, whatever the tree
abbrev pub Follows : {A : Type 0} → (r : Request) → (Reply r → CallResult A) → CallResult A → Type 0
Follows r next result = (reply : Reply r) × MayReply r reply × (next reply ≡ result)

-- a host's refusal, or out of memory
abbrev pub IsFromHost : P1Error → Type 0
IsFromHost e = (error : HostError) × (e ≡ error_of error)

-- what comes of a request over every host: what some reply leads to, or a host's refusal
abbrev pub IsReplied : {A : Type 0} → (r : Request) → (Reply r → CallResult A) → CallResult A → Type 0
IsReplied r next (Ok x) = Follows r next (Ok x)
IsReplied r next (Err e) = IsFromHost e ⊎ Follows r next (Err e)

-- another refusal than out of memory
abbrev pub WantsNoMemory : P1Error → Type 0
WantsNoMemory e = e ≡ Memory → ⊥

-- whether a refusal is an error number, and no trap
abbrev pub is_errno : P1Error → Bool
is_errno (Errno number) = true
is_errno e = false

-- whether a refusal is the failure of a host
abbrev pub is_failure : P1Error → Bool
is_failure (Errno errnos.Io) = true
is_failure e = false

-- the handle of a descriptor, if it has one, is live
abbrev pub IsLive : Handles → Slot → Type 0
IsLive live (slots.Directory d) = contains live d.dir.dir ≡ true
IsLive live (slots.File f) = contains live f.file.file ≡ true
IsLive live (slots.Stream s) = Unit {0}
IsLive live slots.Closed = Unit {0}

-- no node was come to, and what is live stands for the same
pub record Rests (live live' : Handles) (w v : HostModel) : Type 0 where
  pub tree : v.tree ≡ w.tree
  pub touched : v.touched ≡ w.touched
  pub keeps : Keeps live live' w v

-- no node was come to, and the descriptors stand for the same
pub record Stays (w v : HostModel) (table : List Slot) : Type 0 where
  pub tree : v.tree ≡ w.tree
  pub touched : v.touched ≡ w.touched
  pub slots : guest_slots v.held table ≡ guest_slots w.held table
