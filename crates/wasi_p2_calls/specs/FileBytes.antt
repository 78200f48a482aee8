-- The calls that read and write a file's bytes: each makes one call of the host.
use Rattle.std.specs.Prelude.{◌≡◌, ◌⊎◌, ℕ, ◌==◌, ◌&&◌, not, Bool, true, false, List, [], ◌∷◌, length, if◌then◌else◌, Result, Ok, Err}
use Rattle.wasi_host.specs.declared.errors.HostError.{HostError}
use Rattle.wasi_host.specs.declared.host.Host.{Ghosts}
use Rattle.wasi_streams.specs.Input.{ReadReply}
use Rattle.wasi_streams.specs.Reading.{HasRead}
use Rattle.wasi_streams.specs.Writing.{Puts}
use Rattle.wasi_streams.specs.declared.output.FileOutputMode.TheVariants.{Position}
use Rattle.wasi_p2_types.specs.ErrorCodes.{code_named}
use Rattle.wasi_p2_types.specs.FsErrors.{fs_error}
use Rattle.wasi_p2_calls.specs.Resources.{file_at, writable_at}
use Rattle.wasi_p2_calls.specs.Views.{Files, AsksHost, OrRefused, seen_in}
use Rattle.wasi_p2_types.specs.declared.error.FsError.{FsError}
use Rattle.wasi_p2_types.specs.declared.error.FsError.TheVariants.{Code, Memory}
use Rattle.wasi_p2_calls.specs.declared.read_result.ReadResult.{ReadResult}
use Rattle.wasi_p2_types.specs.declared.error_code.ErrorCode.TheVariants.{Io}
use Rattle.wasi_fs.specs.declared.perms.Act.TheVariants.{Alter}

abbrev pub is_none_left : List ℕ → Bool
is_none_left [] = true
is_none_left (b ∷ bytes) = false

-- the bytes that the host gave, and whether these are none
abbrev pub read_answer : ReadReply → Result (List ℕ × Bool) FsError
read_answer (Ok bytes) = Ok (bytes, is_none_left bytes)
read_answer (Err code) = Err (Code (code_named code))

abbrev pub read_shown : Result ReadResult FsError → Result (List ℕ × Bool) FsError
read_shown (Ok r) = Ok (r.bytes.items, r.end)
read_shown (Err e) = Err e

-- `read`: memory is wanted before the host is asked, or never
pub record ReadsFile {H : Type 0} (host : Ghosts H) (old new : Files H) (fd len offset : ℕ)
    (result : Result ReadResult FsError) : Type 0 where
  pub asks : AsksHost host old new result
  pub logged : host.lookups new.ctx.host ≡ host.lookups old.ctx.host
  pub did : OrRefused (file_at old.table.entries fd) (new.ctx.host ≡ old.ctx.host) (λ file.
      ((result ≡ Err Memory) × (new.ctx.host ≡ old.ctx.host))
      ⊎ ((reply : ReadReply) × (read_shown result ≡ read_answer reply)
      × HasRead host.modelled (seen_in host old) (seen_in host new) file.file offset len reply)) result

-- the number that the host took; nothing of a piece that isn't empty is `Io`
abbrev pub write_answer : List ℕ → Result ℕ HostError → Result ℕ FsError
write_answer piece (Ok n) = if (n == 0) && not (length piece == 0) then Err (Code Io) else Ok n
write_answer piece (Err e) = Err (fs_error e)

-- `write`
pub record WritesFile {H : Type 0} (host : Ghosts H) (old new : Files H) (fd : ℕ) (piece : List ℕ) (offset : ℕ)
    (result : Result ℕ FsError) : Type 0 where
  pub asks : AsksHost host old new result
  pub logged : host.lookups new.ctx.host ≡ host.lookups old.ctx.host
  pub did : OrRefused (writable_at Alter old.table.entries fd) (new.ctx.host ≡ old.ctx.host) (λ file.
      (reply : Result ℕ HostError) × (result ≡ write_answer piece reply)
      × Puts host.modelled file.file (seen_in host old) (seen_in host new) (Position offset) piece reply) result
