-- The calls that put something new into the table.
use Rattle.std.specs.Prelude.{◌≡◌, ◌≤◌, ◌<◌, ◌+◌, ◌⊎◌, ℕ, false, IsTrue, List, All, Option, Some, None, Result, Ok, Err, IfOk}
use Rattle.std.specs.FinMap.{get, insert, len}
use Rattle.std.specs.FinSet.{contains, insert as with_handle}
use Rattle.wasi_paths.specs.Text.{is_entry_name}
use Rattle.wasi_host.specs.HostCall.{Dup}
use Rattle.wasi_host.specs.Provenance.{HasProvenance, Nothing}
use Rattle.wasi_host.specs.HostLaws.{Handles, RefinesCall}
use Rattle.wasi_host.specs.declared.errors.HostError.{HostError}
use Rattle.wasi_host.specs.declared.host.Host.{Ghosts}
use Rattle.wasi_resolve.specs.Meanings.{lists_at}
use Rattle.wasi_resolve.specs.PathRequest.{meant_by}
use Rattle.wasi_fs.specs.Calls.{opened_of, open_mode_of, perms_of, opens, IsAsked}
use Rattle.wasi_fs.specs.OpenHow.{OpenHow, may_open, mode_of}
use Rattle.wasi_fs.specs.declared.descriptor.Descriptor.{Descriptor}
use Rattle.wasi_fs.specs.declared.perms.FsPerms.{FsPerms}
use Rattle.wasi_streams.specs.Table.{Entries, Table}
use Rattle.wasi_streams.specs.declared.entry.Entry.{Entry}
use Rattle.wasi_streams.specs.declared.entry.Entry.TheVariants.{Descriptor as AnOpened, Input, Output, Readdir}
use Rattle.wasi_streams.specs.declared.errors.TableError.TheVariants.{Full}
use Rattle.wasi_streams.specs.declared.input.ReadState.TheVariants.{Idle}
use Rattle.wasi_fs.specs.declared.perms.Act.{Act}
use Rattle.wasi_fs.specs.declared.perms.Act.TheVariants as acts
use Rattle.wasi_streams.specs.declared.output.FileOutputMode.{FileOutputMode}
use Rattle.wasi_streams.specs.declared.output.FileOutputMode.TheVariants.{Position, Append}
use Rattle.wasi_streams.specs.declared.output.OutputState.TheVariants.{Ready}
use Rattle.wasi_streams.specs.declared.table.Resource.{Resource}
use Rattle.wasi_p2_types.specs.FlagNames.{how_named}
use Rattle.wasi_p2_types.specs.FsErrors.{fs_error, FsCause}
use Rattle.wasi_p2_calls.specs.Resources.{HasIt, directory_at, entry_handle, readable_at, writable_at}
use Rattle.wasi_p2_calls.specs.Views.{Files, FilesOwned, OrRefused, Performs, node_held, tree_in}
use Rattle.wasi_p2_types.specs.declared.error.FsError.{FsError}
use Rattle.wasi_p2_types.specs.declared.error.FsError.TheVariants.{Trap, Memory}
use Rattle.wasi_p2_types.specs.declared.flags.DescriptorFlags.{DescriptorFlags}
use Rattle.wasi_p2_types.specs.declared.flags.OpenFlags.{OpenFlags}
use Rattle.wasi_p2_types.specs.declared.flags.PathFlags.{PathFlags}

-- a new handle is live, or none is new
abbrev pub AddsHandle : Handles → Option ℕ → Handles → Type 0
AddsHandle live None now = now ≡ live
AddsHandle live (Some h) now = (contains live h ≡ false) × (now ≡ with_handle live h)

-- one entry more under a number that was free, with a handle that wasn't live; a refusal leaves entries and handles
abbrev pub AddsEntry : Handles → Entries → Result Resource FsError → Handles → Entries → Type 0
AddsEntry live table (Ok made) live' table' = (entry : Entry) × (get table made.number ≡ None)
    × (table' ≡ insert table made.number entry) × AddsHandle live (entry_handle (Some entry)) live'
AddsEntry live table (Err e) live' table' = (live' ≡ live) × (table' ≡ table)

-- of what was sure of room one entry at most is used, and nothing where the call is refused
abbrev pub KeepsRoom : Table → Result Resource FsError → Table → Type 0
KeepsRoom table (Ok made) table' = (table'.max ≡ table.max) × (table.spare ≤ table'.spare + 1)
KeepsRoom table (Err e) table' = (table'.max ≡ table.max) × (table.spare ≤ table'.spare)

-- Room for so many entries is made sure of before anything is done: where there may not be so many the call is refused
-- as a trap, and for out of memory where they weren't sure of room
pub record HasRoom {B : Type 0} (table : Table) (more : ℕ) (same Did : Type 0) (result : Result B FsError) : Type 0 where
  pub full : table.max < len table.entries + more → (result ≡ Err (Trap Full)) × same
  pub fits : len table.entries + more ≤ table.max
      → ((result ≡ Err Memory) × (table.spare < more) × same) ⊎ Did

-- what a lower call made stands under the answered number; its refusal is the answer
abbrev pub StandsFor : {M : Type 0} → (M → Entry) → Entries → Result Resource FsError → Result M HostError → Type 0
StandsFor {M = M} entry table (Ok made) answer =
    (m : M) × (answer ≡ Ok m) × (get table made.number ≡ Some (entry m))
StandsFor entry table (Err e) answer = (error : HostError) × (answer ≡ Err error) × (e ≡ fs_error error)

-- the handle of an answered entry
abbrev pub GotFor : Entries → Result Resource FsError → ℕ → Type 0
GotFor table (Ok made) h = HasIt table made.number h
GotFor table (Err e) h = ⊥

-- A call of what is found that puts what it makes into the table: room is there first, then the lower call is made
pub record MakesEntry {H X M : Type 0} (host : Ghosts H) (old new : Files H) (fd : ℕ) (found : Result X FsError)
    (entry : M → Entry) (Did : X → Result M HostError → Type 0) (result : Result Resource FsError) : Type 0 where
  pub ctx : new.ctx ≡ record old.ctx { host = new.ctx.host }
  pub cause : FsCause (host.faults old.ctx.host) (host.faults new.ctx.host) result
  pub adds : AddsEntry (host.live old.ctx.host) old.table.entries result (host.live new.ctx.host) new.table.entries
  pub room : KeepsRoom old.table result new.table
  pub owned : FilesOwned host new
  pub looks : HasProvenance (HasIt old.table.entries fd) Nothing (GotFor new.table.entries result) (host.lookups old.ctx.host)
      (host.lookups new.ctx.host)
  pub did : OrRefused found (new.ctx.host ≡ old.ctx.host) (λ x. HasRoom old.table 1 (new.ctx.host ≡ old.ctx.host)
      ((answer : Result M HostError) × StandsFor entry new.table.entries result answer × Did x answer) result) result

-- what an open below a directory did
pub record OpensBelow {H : Type 0} (host : Ghosts H) (old new : Files H) (dir : ℕ) (perms : FsPerms) (path : List ℕ)
    (how : OpenHow) (answer : Result Descriptor HostError) : Type 0 where
  pub perms_are : IfOk answer (λ d. perms_of d ≡ perms)
  pub mode : IfOk answer (λ d. open_mode_of d ≡ mode_of how)
  pub kind : IfOk answer (IsAsked how.directory)
  pub performs : Performs host old.ctx.host new.ctx.host (may_open how perms)
      (meant_by (tree_in host old) (opens (node_held host old dir) path how)) (opened_of (host.model new.ctx.host).held)
      answer

-- `open_at`
abbrev pub OpensAt : {H : Type 0} → Ghosts H → Files H → Files H → ℕ → PathFlags → List ℕ → OpenFlags → DescriptorFlags
    → Result Resource FsError → Type 0
OpensAt host old new fd path_flags path oflags flags result = MakesEntry host old new fd (directory_at old.table.entries fd)
    AnOpened (λ dir answer. OpensBelow host old new dir.dir dir.perms path (how_named path_flags oflags flags) answer) result

-- a stream over a handle of its own of a file
abbrev pub Doubles : {H M : Type 0} → Ghosts H → Files H → Files H → ℕ → (M → ℕ) → Result M HostError → Type 0
Doubles host old new file handle answer = IsTrue host.modelled → RefinesCall (host.live old.ctx.host) (host.live new.ctx.host)
    (host.model old.ctx.host) (host.model new.ctx.host) (Dup ((host.model old.ctx.host).held file))
    (λ m. (host.model new.ctx.host).held (handle m)) answer

-- `read_via_stream`
abbrev pub StreamsFrom : {H : Type 0} → Ghosts H → Files H → Files H → ℕ → ℕ → Result Resource FsError → Type 0
StreamsFrom host old new fd offset result = MakesEntry host old new fd (readable_at old.table.entries fd) Input
    (λ file answer. IfOk answer (λ s. (s.position ≡ offset) × (s.state ≡ Idle))
    × Doubles host old new file.file (λ s. s.file) answer) result

-- what a stream into a file does to it
abbrev pub act_of : FileOutputMode → Act
act_of (Position offset) = acts.Alter
act_of Append = acts.Append

-- a stream into a file, from an offset on or after its last byte
abbrev pub StreamsTo : {H : Type 0} → Ghosts H → Files H → Files H → ℕ → FileOutputMode → Result Resource FsError → Type 0
StreamsTo host old new fd mode result = MakesEntry host old new fd (writable_at (act_of mode) old.table.entries fd) Output
    (λ file answer. IfOk answer (λ s. (s.mode ≡ mode) × (s.state ≡ Ready))
    × Doubles host old new file.file (λ s. s.file) answer) result

-- `write_via_stream`, `append_via_stream`
abbrev pub StreamsToOffset : {H : Type 0} → Ghosts H → Files H → Files H → ℕ → ℕ → Result Resource FsError → Type 0
StreamsToOffset host old new fd offset result = StreamsTo host old new fd (Position offset) result

abbrev pub StreamsToEnd : {H : Type 0} → Ghosts H → Files H → Files H → ℕ → Result Resource FsError → Type 0
StreamsToEnd host old new fd result = StreamsTo host old new fd Append result

-- `read_directory`
abbrev pub ListsIt : {H : Type 0} → Ghosts H → Files H → Files H → ℕ → Result Resource FsError → Type 0
ListsIt host old new fd result = MakesEntry host old new fd (directory_at old.table.entries fd) Readdir
    (λ dir answer. IfOk answer (All (λ entry. IsTrue (is_entry_name entry.0))) × Performs host old.ctx.host new.ctx.host None
    (lists_at (tree_in host old) (node_held host old dir.dir)) (λ entries. entries) answer) result
