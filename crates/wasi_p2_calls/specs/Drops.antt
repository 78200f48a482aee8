-- The calls that take an entry out of the table, or read on in one.
use Rattle.std.specs.Prelude.{◌≡◌, ◌+◌, ℕ, IsTrue, List, drop, Option, Some, None, option_map, Result, Ok, Err}
use Rattle.std.specs.FinMap.{get, insert, remove}
use Rattle.std.specs.FinSet.{remove as without_handle}
use Rattle.std.specs.String.{string_bytes}
use Rattle.wasi_host.specs.Answer.{Listed}
use Rattle.wasi_host.specs.HostLaws.{Handles, Keeps, HostModel}
use Rattle.wasi_host.specs.declared.host.Host.{Ghosts}
use Rattle.wasi_streams.specs.Found.{readdir_found, first_of}
use Rattle.wasi_streams.specs.Table.{Table}
use Rattle.wasi_streams.specs.declared.entry.Entry.{Entry}
use Rattle.wasi_streams.specs.declared.entry.Entry.TheVariants.{Descriptor, Input, Output, Readdir, Stdin, Stdout, Stderr}
use Rattle.wasi_streams.specs.declared.errors.TableError.{TableError}
use Rattle.wasi_streams.specs.declared.errors.TableError.TheVariants.{NotPresent, WrongKind}
use Rattle.wasi_p2_types.specs.FsErrors.{table_error}
use Rattle.wasi_p2_calls.specs.Resources.{descriptor_at, entry_handle}
use Rattle.wasi_p2_types.specs.Stats.{kind_named}
use Rattle.wasi_p2_calls.specs.Views.{Files, FilesOwned, OrRefused}
use Rattle.wasi_p2_types.specs.declared.error.FsError.{FsError}
use Rattle.wasi_p2_types.specs.declared.error.FsError.TheVariants.{Trap}
use Rattle.wasi_p2_types.specs.declared.descriptor_stat.DescriptorType.{DescriptorType}
use Rattle.wasi_p2_types.specs.declared.descriptor_stat.DirectoryEntry.{DirectoryEntry}

-- a stream or a listing, which `drop_stream` takes
abbrev pub stream_found : Option Entry → Result (Unit {0}) FsError
stream_found None = Err (Trap NotPresent)
stream_found (Some (Descriptor descriptor)) = Err (Trap WrongKind)
stream_found (Some (Input stream)) = Ok tt
stream_found (Some (Output stream)) = Ok tt
stream_found (Some (Readdir entries)) = Ok tt
stream_found (Some Stdin) = Err (Trap WrongKind)
stream_found (Some Stdout) = Err (Trap WrongKind)
stream_found (Some Stderr) = Err (Trap WrongKind)

-- what is live without a handle
abbrev pub live_without : Handles → Option ℕ → Handles
live_without live (Some h) = without_handle live h
live_without live None = live

-- no node was come to, and what stays live stands for the same
pub record LeavesTree (live live' : Handles) (w v : HostModel) : Type 0 where
  pub tree : v.tree ≡ w.tree
  pub touched : v.touched ≡ w.touched
  pub keeps : Keeps live live' w v

-- an entry goes, and its handle is closed; there is room for one more
pub record Closes {H : Type 0} (host : Ghosts H) (old new : Files H) (n : ℕ) : Type 0 where
  pub ctx : new.ctx ≡ record old.ctx { host = new.ctx.host }
  pub faults : host.faults new.ctx.host ≡ host.faults old.ctx.host
  pub logged : host.lookups new.ctx.host ≡ host.lookups old.ctx.host
  pub live : host.live new.ctx.host ≡ live_without (host.live old.ctx.host) (entry_handle (get old.table.entries n))
  pub entries : new.table.entries ≡ remove old.table.entries n
  pub max : new.table.max ≡ old.table.max
  pub spare : new.table.spare ≡ old.table.spare + 1
  pub owned : FilesOwned host new
  pub rests : IsTrue host.modelled → LeavesTree (host.live old.ctx.host) (host.live new.ctx.host) (host.model old.ctx.host)
      (host.model new.ctx.host)

-- `drop`
abbrev pub DropsDescriptor : {H : Type 0} → Ghosts H → Files H → Files H → ℕ → Result (Unit {0}) FsError → Type 0
DropsDescriptor host old new n result = OrRefused (descriptor_at old.table.entries n) (new ≡ old)
    (λ descriptor. (result ≡ Ok tt) × Closes host old new n) result

-- `drop_stream`
abbrev pub DropsStream : {H : Type 0} → Ghosts H → Files H → Files H → ℕ → Result (Unit {0}) FsError → Type 0
DropsStream host old new n result = OrRefused (stream_found (get old.table.entries n)) (new ≡ old)
    (λ unit. (result ≡ Ok tt) × Closes host old new n) result

-- a listing's entries, or the refusal
abbrev pub listing_found : Result (List Listed) TableError → Result (List Listed) FsError
listing_found (Ok entries) = Ok entries
listing_found (Err e) = Err (table_error e)

-- an entry of a listing, as it is told
abbrev pub entry_told : DirectoryEntry → List ℕ × DescriptorType
entry_told entry = (string_bytes entry.name, entry.type_)

abbrev pub entry_named : Listed → List ℕ × DescriptorType
entry_named entry = (entry.0, kind_named entry.1)

abbrev pub next_told : Result (Option DirectoryEntry) FsError → Result (Option (List ℕ × DescriptorType)) FsError
next_told (Ok next) = Ok (option_map entry_told next)
next_told (Err e) = Err e

-- the next of a listing's entries is told, and the others are left
pub record TellsNext (table now : Table) (n : ℕ) (entries : List Listed) (result : Result (Option DirectoryEntry) FsError)
    : Type 0 where
  pub answer : next_told result ≡ Ok (option_map entry_named (first_of entries))
  pub table_is : now ≡ record table { entries = insert table.entries n (Readdir (drop 1 entries)) }

abbrev pub NextRead : Table → Table → ℕ → Result (Option DirectoryEntry) FsError → Type 0
NextRead table now n result = OrRefused (listing_found (readdir_found (get table.entries n))) (now ≡ table)
    (λ entries. TellsNext table now n entries result) result

-- and the handles stay owned
pub record TakesNext {H : Type 0} (host : Ghosts H) (old new : Files H) (n : ℕ) (entries : List Listed)
    (result : Result (Option DirectoryEntry) FsError) : Type 0 where
  pub tells : TellsNext old.table new.table n entries result
  pub ctx : new.ctx ≡ old.ctx
  pub owned : FilesOwned host new

-- `read_directory_entry`
abbrev pub ReadsNext : {H : Type 0} → Ghosts H → Files H → Files H → ℕ → Result (Option DirectoryEntry) FsError → Type 0
ReadsNext host old new n result = OrRefused (listing_found (readdir_found (get old.table.entries n))) (new ≡ old)
    (λ entries. TakesNext host old new n entries result) result
