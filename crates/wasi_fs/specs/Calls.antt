-- What the calls of descriptors do: what is permitted, then what the resolver or the host does.
use Rattle.std.specs.Prelude.{ℕ, ◌≡◌, ◌+◌, Bool, true, false, not, ◌==◌, List, [], ◌∷◌, codes, Option, Some, None, Result, Ok, Err, IfErr, is_ok, if◌then◌else◌}
use Rattle.std.specs.FinSet.{contains, insert}
use Rattle.wasi_paths.specs.Parts.{has_root}
use Rattle.wasi_host.specs.Agree.{Touches}
use Rattle.wasi_host.specs.Tree.{Tree}
use Rattle.wasi_host.specs.HostCall.{HostCall, Sync, Flags}
use Rattle.wasi_host.specs.Refusal.{first_rule}
use Rattle.wasi_host.specs.Answer.{HostAnswer, stat_answer}
use Rattle.wasi_host.specs.Step.{times_set}
use Rattle.wasi_host.specs.Steps.{◌>>=◌}
use Rattle.wasi_host.specs.Provenance.{HasProvenance, Only, Nothing}
use Rattle.wasi_host.specs.HostLaws.{HostModel, Handles, Means}
use Rattle.wasi_host.specs.declared.errors.ErrorCode.{ErrorCode}
use Rattle.wasi_host.specs.declared.errors.ErrorCode.TheVariants.{Invalid, NotPermitted}
use Rattle.wasi_host.specs.declared.errors.HostError.{HostError}
use Rattle.wasi_host.specs.declared.errors.HostError.TheVariants.{Code, Memory}
use Rattle.wasi_host.specs.declared.open_handle.OpenHandle.{OpenHandle}
use Rattle.wasi_host.specs.declared.lookup.Lookup.{Lookup}
use Rattle.wasi_host.specs.declared.metadata.Metadata.{Metadata}
use Rattle.wasi_host.specs.declared.sync_flags.SyncFlags.{SyncFlags}
use Rattle.wasi_host.specs.declared.system_time.SystemTime.{SystemTime}
use Rattle.wasi_resolve.specs.Meanings.{ends_by}
use Rattle.wasi_resolve.specs.Paths.{opened, reading}
use Rattle.wasi_resolve.specs.PathRequest.{PathRequest, OpenPath, LookPath, TimesPath, Opened}
use Rattle.wasi_resolve.specs.Resolved.{Meant, Resolved, call_meant}
use Rattle.wasi_fs.specs.DescriptorStat.{descriptor_type}
use Rattle.wasi_fs.specs.OpenFlags.{descriptor_flag_bits, includes}
use Rattle.wasi_fs.specs.OpenHow.{OpenHow, is_followed, options_of}
use Rattle.wasi_fs.specs.OpenMode.{mode_bits}
use Rattle.wasi_fs.specs.Perms.{permits, differ}
use Rattle.wasi_fs.specs.declared.descriptor.Descriptor.{Descriptor}
use Rattle.wasi_fs.specs.declared.descriptor.Descriptor.TheVariants as descriptors
use Rattle.wasi_fs.specs.declared.descriptor_stat.DescriptorType.{DescriptorType}
use Rattle.wasi_fs.specs.declared.descriptor_stat.DescriptorType.TheVariants as types
use Rattle.wasi_fs.specs.declared.open_flags.DescriptorFlags.{DescriptorFlags}
use Rattle.wasi_fs.specs.declared.open_flags.PathFlags.{PathFlags}
use Rattle.wasi_fs.specs.declared.open_mode.OpenMode.{OpenMode}
use Rattle.wasi_fs.specs.declared.perms.Act.{Act}
use Rattle.wasi_fs.specs.declared.perms.Act.TheVariants.{Make, Alter}
use Rattle.wasi_fs.specs.declared.perms.FsPerms.{FsPerms}

-- ---- what is permitted

-- an act that isn't permitted is refused
unfoldable pub may_do : FsPerms → Act → Option ErrorCode
may_do perms act = first_rule ((not (permits perms act), NotPermitted) ∷ [])

-- a link is made where making is permitted, and none anywhere whose text has a root
unfoldable pub may_link : FsPerms → List ℕ → Option ErrorCode
may_link perms target = first_rule ((not (permits perms Make), NotPermitted) ∷ (has_root target, NotPermitted) ∷ [])

-- a node gets a further name only where making is permitted in both directories, and under the same permissions; a link
-- isn't followed
unfoldable pub may_add_name : FsPerms → FsPerms → Bool → Option ErrorCode
may_add_name old new follow = first_rule (
    (not (permits old Make), NotPermitted) ∷
    (not (permits new Make), NotPermitted) ∷
    (follow, Invalid) ∷
    (differ old new, NotPermitted) ∷
    [])

-- a name moves only where altering is permitted in both, and under the same permissions
unfoldable pub may_rename : FsPerms → FsPerms → Option ErrorCode
may_rename old new = first_rule (
    (not (permits old Alter), NotPermitted) ∷
    (not (permits new Alter), NotPermitted) ∷
    (differ old new, NotPermitted) ∷
    [])

-- a call that isn't permitted is refused so, and the host is as it was: nothing was asked of it
abbrev pub Refuses : {A H : Type 0} → Option ErrorCode → Result A HostError → H → H → Type 0
Refuses None result old new = Unit {0}
Refuses (Some code) result old new = (result ≡ Err (Code code)) × (new ≡ old)

-- memory wasn't wanted
abbrev pub NotMemory : HostError → Type 0
NotMemory e = e ≡ Memory → ⊥

-- ---- descriptors

abbrev pub handle_of : Descriptor → ℕ
handle_of (descriptors.File file) = file.file
handle_of (descriptors.Dir dir) = dir.dir

abbrev pub perms_of : Descriptor → FsPerms
perms_of (descriptors.File file) = file.perms
perms_of (descriptors.Dir dir) = dir.perms

abbrev pub open_mode_of : Descriptor → OpenMode
open_mode_of (descriptors.File file) = file.open_mode
open_mode_of (descriptors.Dir dir) = dir.open_mode

-- what was opened: what the handle stands for, and whether it is a directory
abbrev pub opened_of : (ℕ → OpenHandle) → Descriptor → Opened
opened_of held (descriptors.File file) = record { held = held file.file; is_dir = false }
opened_of held (descriptors.Dir dir) = record { held = held dir.dir; is_dir = true }

-- a directory where one is asked for
abbrev pub IsAsked : Bool → Descriptor → Type 0
IsAsked directory (descriptors.File file) = directory ≡ false
IsAsked directory (descriptors.Dir dir) = Unit {0}

-- a descriptor has a new handle; a refusal leaves what is live
abbrev pub LiveOpened : Handles → Result Descriptor HostError → Handles → Type 0
LiveOpened old (Ok descriptor) new =
    (contains old (handle_of descriptor) ≡ false) × (new ≡ insert old (handle_of descriptor))
LiveOpened old (Err e) new = new ≡ old

-- the handle of an answer was got by the call
abbrev pub GotOpened : Result Descriptor HostError → ℕ → Type 0
GotOpened (Ok descriptor) q = q ≡ handle_of descriptor
GotOpened (Err e) q = ⊥

-- ---- what is meant

-- the request of an open below a directory
abbrev pub opens : ℕ → List ℕ → OpenHow → PathRequest
opens d text how = OpenPath d text (options_of how) how.follow how.directory

-- the request of a look below a directory
abbrev pub looks : ℕ → List ℕ → PathFlags → PathRequest
looks d text flags = LookPath d text (is_followed flags)

-- the request of setting times below a directory
abbrev pub sets_times : ℕ → List ℕ → PathFlags → Option SystemTime → Option SystemTime → PathRequest
sets_times d text flags atime mtime = TimesPath d text (is_followed flags) atime mtime

-- what is made of an answer
abbrev pub meant_as : {B C : Type 0} → (B → C) → Meant B → Meant C
meant_as shown m = record {
  starts = m.starts;
  answer = m.answer >>= (λ b. Ok (shown b));
  stepped = m.stepped;
  ends = m.ends;
}

-- the metadata of a node
abbrev pub stats : Tree → ℕ → Meant Metadata
stats t n = record { starts = n ∷ []; answer = stat_answer t n; stepped = t; ends = n ∷ [] }

-- the times of a node
abbrev pub sets : Tree → ℕ → Option SystemTime → Option SystemTime → Meant (Unit {0})
sets t n atime mtime = record { starts = n ∷ []; answer = Ok tt; stepped = times_set t n atime mtime; ends = n ∷ [] }

-- one call of the host at a node
abbrev pub asks_at : Tree → (call : HostCall) → ℕ → Meant (HostAnswer call)
asks_at t call n = call_meant t call (n ∷ [])

-- a directory is opened anew for reading, as `.` below it, and that one is come to
abbrev pub syncs_directory : Tree → ℕ → Meant (Unit {0})
syncs_directory t d = record {
  starts = d ∷ [];
  answer = opened t d (codes ".") reading true >>= (λ held. Ok tt);
  stepped = t;
  ends = ends_by (λ held. held.node) (opened t d (codes ".") reading true);
}

-- what a descriptor stands for is stored
abbrev pub syncs : Tree → (ℕ → OpenHandle) → Descriptor → Meant (Unit {0})
syncs t held (descriptors.File file) = asks_at t (Sync (held file.file).node) (held file.file).node
syncs t held (descriptors.Dir dir) = syncs_directory t (held dir.dir).node

-- a file takes no memory
abbrev pub NeedsNone : {A : Type 0} → Descriptor → Result A HostError → Type 0
NeedsNone (descriptors.File file) result = IfErr result NotMemory
NeedsNone (descriptors.Dir dir) result = Unit {0}

-- of a file no name is looked up; of a directory what is looked up begins from it
abbrev pub LooksAnew : Descriptor → List Lookup → List Lookup → Type 0
LooksAnew (descriptors.File file) old new = new ≡ old
LooksAnew (descriptors.Dir dir) old new = HasProvenance (Only dir.dir) Nothing Nothing old new

-- Whether two nodes are one: the tree stays, no node but these two is touched, and both where it is answered; and the
-- handles that are live stand for what they stood for
pub record Compares (live : Handles) (w v : HostModel) (m n : ℕ) (result : Result Bool HostError) : Type 0 where
  pub answer : Means (λ same. same) (Ok (m == n)) result
  pub tree : v.tree ≡ w.tree
  pub touched : Touches w.tree v.tree (m ∷ n ∷ []) (if is_ok result then m ∷ n ∷ [] else []) w.touched v.touched
  pub keeps : (h : ℕ) → contains live h ≡ true → v.held h ≡ w.held h

-- a directory's kind is known, and nothing is asked of the host
abbrev pub AnswersKnown : {H : Type 0} → Descriptor → Result DescriptorType HostError → H → H → Type 0
AnswersKnown (descriptors.Dir dir) result old new = (result ≡ Ok types.Directory) × (new ≡ old)
AnswersKnown (descriptors.File file) result old new = Unit {0}

-- the kind of a descriptor's node: a directory's is known
abbrev pub IsTyped : Handles → HostModel → HostModel → Descriptor → Result DescriptorType HostError → Type 0
IsTyped live w v (descriptors.Dir dir) result = (v ≡ w) × (result ≡ Ok types.Directory)
IsTyped live w v (descriptors.File file) result =
    Resolved live w v (meant_as (λ metadata. descriptor_type metadata.kind) (stats w.tree (w.held file.file).node))
    (λ kind. kind) result

-- ---- what a descriptor is for

-- the bits of the flags that are set, by rows of whether one is and its bit
abbrev pub bits_set : List (Bool × ℕ) → ℕ
bits_set [] = 0
bits_set (row ∷ rows) = (if row.0 then row.1 else 0) + bits_set rows

-- the bit of the flag that says what may be changed: WRITE of a file, MUTATE_DIRECTORY of a directory
abbrev pub change_bit : Descriptor → ℕ
change_bit (descriptors.File file) = 2
change_bit (descriptors.Dir dir) = 32

-- READ (1) where it was opened for reading, and the flag of changes where it was for writing; and the modes of its handle
abbrev pub flags_of : Descriptor → SyncFlags → ℕ
flags_of descriptor modes = bits_set (
    (includes (mode_bits (open_mode_of descriptor)) 1, 1) ∷
    (includes (mode_bits (open_mode_of descriptor)) 2, change_bit descriptor) ∷
    (modes.sync, 4) ∷
    (modes.dsync, 8) ∷
    (modes.rsync, 16) ∷
    [])

-- they are its flags with some modes
abbrev pub IsFlags : Descriptor → DescriptorFlags → Type 0
IsFlags descriptor flags = (modes : SyncFlags) × (descriptor_flag_bits flags ≡ flags_of descriptor modes)

-- what the flags of a descriptor mean, whose handle stands for a node
abbrev pub tells_flags : Tree → ℕ → Descriptor → Meant ℕ
tells_flags t n descriptor = meant_as (flags_of descriptor) (asks_at t (Flags n) n)
