-- What the steps of a call do to the table, and to a handle.
use Rattle.std.specs.Prelude.{◌≡◌, ◌≤◌, ◌<◌, ◌+◌, ◌⊎◌, ℕ, IsTrue, Option, Some, None}
use Rattle.std.specs.FinMap.{get, insert, len, remove}
use Rattle.wasi_host.specs.declared.host.Host.{Ghosts}
use Rattle.wasi_streams.specs.Table.{Table}
use Rattle.wasi_streams.specs.declared.entry.Entry.{Entry}
use Rattle.wasi_streams.specs.declared.errors.TableError.TheVariants.{Full}
use Rattle.wasi_p2_calls.specs.Drops.{LeavesTree, live_without}
use Rattle.wasi_p2_types.specs.declared.error.FsError.{FsError}
use Rattle.wasi_p2_types.specs.declared.error.FsError.TheVariants.{Trap, Memory}

-- the entries stay, and no room is lost
pub record KeepsTable (table now : Table) : Type 0 where
  pub entries : now.entries ≡ table.entries
  pub max : now.max ≡ table.max
  pub grows : table.spare ≤ now.spare

-- there may not be so many entries more, or memory ran out for them
abbrev pub NoRoom : Table → ℕ → FsError → Type 0
NoRoom table more e = ((e ≡ Trap Full) × (table.max < len table.entries + more))
    ⊎ ((e ≡ Memory) × (len table.entries + more ≤ table.max) × (table.spare < more))

-- an entry was put under a number that was free
pub record PutIn (table now : Table) (n : ℕ) (entry : Entry) : Type 0 where
  pub fresh : get table.entries n ≡ None
  pub entries : now.entries ≡ insert table.entries n entry
  pub max : now.max ≡ table.max
  pub spare : table.spare ≡ now.spare + 1

-- the entry of a number was taken out
pub record TakenOut (table now : Table) (n : ℕ) (entry : Entry) : Type 0 where
  pub was : get table.entries n ≡ Some entry
  pub entries : now.entries ≡ remove table.entries n
  pub max : now.max ≡ table.max
  pub spare : now.spare ≡ table.spare + 1

-- a handle was closed, if there is one
pub record ClosesHandle {H : Type 0} (host : Ghosts H) (old new : H) (handle : Option ℕ) : Type 0 where
  pub faults : host.faults new ≡ host.faults old
  pub logged : host.lookups new ≡ host.lookups old
  pub live : host.live new ≡ live_without (host.live old) handle
  pub modelled : IsTrue host.modelled → LeavesTree (host.live old) (host.live new) (host.model old) (host.model new)
