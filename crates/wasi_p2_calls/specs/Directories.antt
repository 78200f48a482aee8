-- `get_directories`: each directory that a guest was given, as an entry of its own.
use Rattle.std.specs.Prelude.{◌≡◌, ◌≤◌, ◌<◌, ◌+◌, ◌⊎◌, ℕ, true, false, Bool, IsTrue, List, [], ◌∷◌, length, None, Result, Ok, Err}
use Rattle.std.specs.FinMap.{get, insert, len, remove}
use Rattle.std.specs.FinSet.{contains, insert as with_handle}
use Rattle.std.specs.String.{string_bytes}
use Rattle.wasi_host.specs.Provenance.{HasProvenance, Only, Nothing}
use Rattle.wasi_host.specs.HostLaws.{Handles, HostModel}
use Rattle.wasi_host.specs.declared.errors.ErrorCode.{ErrorCode}
use Rattle.wasi_host.specs.declared.errors.ErrorCode.TheVariants.{Io}
use Rattle.wasi_host.specs.declared.host.Host.{Ghosts}
use Rattle.wasi_fs.specs.declared.descriptor.Descriptor.TheVariants as opened
use Rattle.wasi_streams.specs.Table.{Entries, Table}
use Rattle.wasi_streams.specs.declared.entry.Entry.{Entry}
use Rattle.wasi_streams.specs.declared.entry.Entry.TheVariants.{Descriptor}
use Rattle.wasi_streams.specs.declared.errors.TableError.TheVariants.{Full}
use Rattle.wasi_p2_calls.specs.Drops.{LeavesTree}
use Rattle.wasi_p2_types.specs.FsErrors.{FsCause}
use Rattle.wasi_p2_calls.specs.Resources.{entry_handle}
use Rattle.wasi_p2_calls.specs.Rooms.{ClosesHandle}
use Rattle.wasi_p2_calls.specs.Views.{Files, FilesOwned}
use Rattle.wasi_p2_calls.specs.declared.context.Preopen.{Preopen}
use Rattle.wasi_p2_types.specs.declared.error.FsError.{FsError}
use Rattle.wasi_p2_types.specs.declared.error.FsError.TheVariants.{Code, Memory, Trap}
use Rattle.wasi_p2_calls.specs.declared.preopens.PreopenEntry.{PreopenEntry}
use Rattle.wasi_p2_types.specs.ErrorCodes.{code_named}

-- the entry of a preopen, with a handle of its own
abbrev pub preopen_entry : Preopen → ℕ → Entry
preopen_entry p h = Descriptor (opened.Dir (record p.dir { dir = h }))

-- these directories' handles
abbrev pub IsOfThese : List Preopen → ℕ → Type 0
IsOfThese [] q = ⊥
IsOfThese (p ∷ preopens) q = (q ≡ p.dir.dir) ⊎ IsOfThese preopens q

-- it is live, and wasn't
abbrev pub IsNewlyLive : Handles → Handles → ℕ → Type 0
IsNewlyLive live live' h = (contains live h ≡ false) × (contains live' h ≡ true)

-- Not all were given: there may not be so many entries; or memory ran out; or the host refused a `dup` with the code
-- that is named, which is `Io`, where it is told
abbrev pub WhyNotAll : Bool → Table → ℕ → FsError → Type 0
WhyNotAll modelled table more e = ((e ≡ Trap Full) × (table.max < len table.entries + more))
    ⊎ ((e ≡ Memory) ⊎ ((code : ErrorCode) × (e ≡ Code (code_named code)) × (IsTrue modelled → code ≡ Io)))

-- One entry for each preopen, in order, and nothing else is new: under a number that was free, with the preopen's name,
-- permissions and mode, and a handle that wasn't live, which stands for what the preopen's handle stands for
abbrev pub GivesEach : Bool → HostModel → Handles → Entries → List Preopen → List PreopenEntry → Handles → Entries → Type 0
GivesEach modelled w live table [] [] live' table' = (live' ≡ live) × (table' ≡ table)
GivesEach modelled w live table [] (m ∷ made) live' table' = ⊥
GivesEach modelled w live table (p ∷ preopens) [] live' table' = ⊥
GivesEach modelled w live table (p ∷ preopens) (m ∷ made) live' table' = (h : ℕ)
    × (contains live h ≡ false)
    × (get table m.fd.number ≡ None)
    × (string_bytes m.name ≡ string_bytes p.name)
    × (IsTrue modelled → w.held h ≡ w.held p.dir.dir)
    × GivesEach modelled w (with_handle live h) (insert table m.fd.number (preopen_entry p h)) preopens made live' table'

-- all of them are there; or why not, and then entries and handles are as before
abbrev pub EachOrNone : Bool → HostModel → Handles → Table → List Preopen → Result (List PreopenEntry) FsError → Handles
    → Table → Type 0
EachOrNone modelled w live table preopens (Ok made) live' table' =
    GivesEach modelled w live table.entries preopens made live' table'.entries
    × (table.spare ≤ table'.spare + length preopens)
EachOrNone modelled w live table preopens (Err e) live' table' =
    (live' ≡ live) × (table'.entries ≡ table.entries) × (table.spare ≤ table'.spare)
    × WhyNotAll modelled table (length preopens) e

-- What is done to the host and the table, of these preopens: lookups begin from their handles, and got each handle
-- that is newly live
pub record GivesThese {H : Type 0} (host : Ghosts H) (old new : H) (table now : Table) (preopens : List Preopen)
    (result : Result (List PreopenEntry) FsError) : Type 0 where
  pub cause : FsCause (host.faults old) (host.faults new) result
  pub gives : EachOrNone host.modelled (host.model new) (host.live old) table preopens result (host.live new) now
  pub max : now.max ≡ table.max
  pub looks : HasProvenance (IsOfThese preopens) Nothing (IsNewlyLive (host.live old) (host.live new)) (host.lookups old)
      (host.lookups new)
  pub leaves : IsTrue host.modelled → LeavesTree (host.live old) (host.live new) (host.model old) (host.model new)

-- `get_directories`
pub record GivesDirectories {H : Type 0} (host : Ghosts H) (old new : Files H)
    (result : Result (List PreopenEntry) FsError) : Type 0 where
  pub ctx : new.ctx ≡ record old.ctx { host = new.ctx.host }
  pub these : GivesThese host old.ctx.host new.ctx.host old.table new.table old.ctx.preopens.items result
  pub owned : FilesOwned host new

-- ---- its steps

-- an answer without a list, and with one
abbrev pub with_list : Result (Unit {0}) FsError → List PreopenEntry → Result (List PreopenEntry) FsError
with_list (Ok unit) made = Ok made
with_list (Err e) made = Err e

-- one directory is given
pub record GivesOne {H : Type 0} (host : Ghosts H) (old new : H) (table now : Table) (p : Preopen) (m : PreopenEntry)
    : Type 0 where
  pub handle : ℕ
  pub was_new : contains (host.live old) handle ≡ false
  pub live : host.live new ≡ with_handle (host.live old) handle
  pub fresh : get table.entries m.fd.number ≡ None
  pub entries : now.entries ≡ insert table.entries m.fd.number (preopen_entry p handle)
  pub max : now.max ≡ table.max
  pub spare : table.spare ≤ now.spare + 1
  pub name : string_bytes m.name ≡ string_bytes p.name
  pub looks : HasProvenance (Only p.dir.dir) Nothing (Only handle) (host.lookups old) (host.lookups new)
  pub same : IsTrue host.modelled → (host.model new).held handle ≡ (host.model old).held p.dir.dir
  pub leaves : IsTrue host.modelled → LeavesTree (host.live old) (host.live new) (host.model old) (host.model new)

-- or it isn't
pub record GivesNone {H : Type 0} (host : Ghosts H) (old new : H) (table now : Table) (p : Preopen) (e : FsError)
    : Type 0 where
  pub live : host.live new ≡ host.live old
  pub entries : now.entries ≡ table.entries
  pub max : now.max ≡ table.max
  pub spare : table.spare ≤ now.spare
  pub why : WhyNotAll host.modelled table 1 e
  pub looks : HasProvenance (Only p.dir.dir) Nothing Nothing (host.lookups old) (host.lookups new)
  pub leaves : IsTrue host.modelled → LeavesTree (host.live old) (host.live new) (host.model old) (host.model new)

abbrev pub OneOrNone : {H : Type 0} → Ghosts H → H → H → Table → Table → Preopen → Result PreopenEntry FsError → Type 0
OneOrNone host old new table now p (Ok m) = GivesOne host old new table now p m
OneOrNone host old new table now p (Err e) = GivesNone host old new table now p e

-- an entry is taken out again, and its handle closed
pub record TakesBack {H : Type 0} (host : Ghosts H) (old new : H) (table now : Table) (n : ℕ) : Type 0 where
  pub entries : now.entries ≡ remove table.entries n
  pub max : now.max ≡ table.max
  pub spare : now.spare ≡ table.spare + 1
  pub closes : ClosesHandle host old new (entry_handle (get table.entries n))
