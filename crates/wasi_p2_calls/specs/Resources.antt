-- What a resource stands for, and who has which handle.
use Rattle.std.specs.Prelude.{◌≡◌, ◌⊎◌, ℕ, true, List, slice_get, Option, Some, None, option_map, Result, Ok, Err, if◌then◌else◌}
use Rattle.std.specs.FinMap.{get}
use Rattle.std.specs.FinSet.{contains}
use Rattle.wasi_host.specs.HostLaws.{Handles}
use Rattle.wasi_fs.specs.Calls.{handle_of}
use Rattle.wasi_fs.specs.declared.descriptor.Descriptor.{Descriptor}
use Rattle.wasi_fs.specs.declared.descriptor.Descriptor.TheVariants as opened
use Rattle.wasi_fs.specs.declared.descriptor.Dir.{Dir}
use Rattle.wasi_fs.specs.declared.descriptor.File.{File}
use Rattle.wasi_fs.specs.Perms.{permits}
use Rattle.wasi_fs.specs.declared.perms.Act.{Act}
use Rattle.wasi_streams.specs.Found.{descriptor_found}
use Rattle.wasi_streams.specs.Table.{Entries}
use Rattle.wasi_streams.specs.declared.entry.Entry.{Entry}
use Rattle.wasi_streams.specs.declared.entry.Entry.TheVariants.{Descriptor as AnOpened, Input, Output, Readdir, Stdin, Stdout, Stderr}
use Rattle.wasi_streams.specs.declared.errors.TableError.{TableError}
use Rattle.wasi_p2_types.specs.FsErrors.{table_error}
use Rattle.wasi_p2_calls.specs.declared.context.Preopen.{Preopen}
use Rattle.wasi_p2_types.specs.declared.error.FsError.{FsError}
use Rattle.wasi_p2_types.specs.declared.error.FsError.TheVariants.{Code}
use Rattle.wasi_p2_types.specs.declared.error_code.ErrorCode.{ErrorCode}
use Rattle.wasi_p2_types.specs.declared.error_code.ErrorCode.TheVariants.{BadDescriptor, IsDirectory, NotDirectory, NotPermitted}

-- ---- what a resource stands for, or the refusal

abbrev pub as_opened : Result Descriptor TableError → Result Descriptor FsError
as_opened (Ok descriptor) = Ok descriptor
as_opened (Err e) = Err (table_error e)

abbrev pub as_directory_of : Result Descriptor TableError → Result Dir FsError
as_directory_of (Ok (opened.Dir dir)) = Ok dir
as_directory_of (Ok (opened.File file)) = Err (Code NotDirectory)
as_directory_of (Err e) = Err (table_error e)

-- a directory is refused with this code
abbrev pub as_file_or : ErrorCode → Result Descriptor TableError → Result File FsError
as_file_or code (Ok (opened.File file)) = Ok file
as_file_or code (Ok (opened.Dir dir)) = Err (Code code)
as_file_or code (Err e) = Err (table_error e)

-- a file to which this is to be done
abbrev pub as_writable : Act → Result File FsError → Result File FsError
as_writable act (Ok file) = if permits file.perms act then Ok file else Err (Code NotPermitted)
as_writable act (Err e) = Err e

-- by its number
abbrev pub descriptor_at : Entries → ℕ → Result Descriptor FsError
descriptor_at table n = as_opened (descriptor_found (get table n))

abbrev pub directory_at : Entries → ℕ → Result Dir FsError
directory_at table n = as_directory_of (descriptor_found (get table n))

abbrev pub file_or : ErrorCode → Entries → ℕ → Result File FsError
file_or code table n = as_file_or code (descriptor_found (get table n))

abbrev pub file_at : Entries → ℕ → Result File FsError
file_at table n = file_or BadDescriptor table n

-- a file that is to be read as a stream
abbrev pub readable_at : Entries → ℕ → Result File FsError
readable_at table n = file_or IsDirectory table n

abbrev pub writable_at : Act → Entries → ℕ → Result File FsError
writable_at act table n = as_writable act (file_at table n)

-- two of them; the first refusal goes first
abbrev pub both_found : {A B : Type 0} → Result A FsError → Result B FsError → Result (A × B) FsError
both_found (Ok a) (Ok b) = Ok (a, b)
both_found (Ok a) (Err e) = Err e
both_found (Err e) other = Err e

-- ---- who has which handle

-- the handle of an entry
abbrev pub entry_handle : Option Entry → Option ℕ
entry_handle (Some (AnOpened descriptor)) = Some (handle_of descriptor)
entry_handle (Some (Input stream)) = Some stream.file
entry_handle (Some (Output stream)) = Some stream.file
entry_handle (Some (Readdir entries)) = None
entry_handle (Some Stdin) = None
entry_handle (Some Stdout) = None
entry_handle (Some Stderr) = None
entry_handle None = None

-- the entry of a number has a handle
abbrev pub HasIt : Entries → ℕ → ℕ → Type 0
HasIt table n h = entry_handle (get table n) ≡ Some h

-- one of two entries has it
abbrev pub OneHasIt : Entries → ℕ → ℕ → ℕ → Type 0
OneHasIt table m n h = HasIt table m h ⊎ HasIt table n h

-- where a handle may stand: at a preopen, by its place, or in the table, under a number
pub data Holder : Type 0 where
  preopened : ℕ → Holder
  tabled : ℕ → Holder

abbrev pub handle_held : List Preopen → Entries → Holder → Option ℕ
handle_held preopens table (preopened i) = option_map (λ p. p.dir.dir) (slice_get preopens i)
handle_held preopens table (tabled n) = entry_handle (get table n)

-- the handles of preopens and entries are live, and each stands in one place only
pub record AreOwned (live : Handles) (preopens : List Preopen) (table : Entries) : Type 0 where
  pub lives : (p : Holder) (h : ℕ) → handle_held preopens table p ≡ Some h → contains live h ≡ true
  pub apart : (p q : Holder) (h : ℕ) → handle_held preopens table p ≡ Some h → handle_held preopens table q ≡ Some h
      → p ≡ q
