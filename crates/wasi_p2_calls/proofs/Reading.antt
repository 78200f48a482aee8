-- The exits of the call that reads a file's bytes.
use Rattle.std.proofs.Common.{◌≡◌, ℕ, Bool, List, Result, Ok, Err, refl, ap, inr}
use Rattle.wasi_host.specs.declared.errors.ErrorCode.{ErrorCode as LowerCode}
use Rattle.wasi_host.specs.HostLaws.{FaultCount, HasCause, hosted}
use Rattle.wasi_host.specs.declared.host.Host.{Ghosts}
use Rattle.wasi_fs.specs.declared.descriptor.File.{File}
use Rattle.wasi_streams.specs.Input.{ReadReply}
use Rattle.wasi_streams.specs.Reading.{HasRead}
use Rattle.wasi_streams.specs.Table.{Table}
use Rattle.wasi_p2_types.specs.ErrorCodes.{code_named}
use Rattle.wasi_p2_calls.specs.FileBytes.{ReadsFile, is_none_left, read_answer, read_shown}
use Rattle.wasi_p2_types.specs.FsErrors.{FsCause}
use Rattle.wasi_p2_calls.specs.Resources.{AreOwned, file_at}
use Rattle.wasi_p2_calls.specs.Views.{files_of, seen_in}
use Rattle.wasi_p2_calls.specs.declared.context.WasiFilesystemCtx.{WasiFilesystemCtx}
use Rattle.wasi_p2_types.specs.declared.error.FsError.{FsError}
use Rattle.wasi_p2_calls.specs.declared.read_result.ReadResult.{ReadResult}
use Rattle.wasi_p2_types.specs.declared.error_code.ErrorCode.TheVariants.{Io}
use Rattle.wasi_p2_calls.proofs.Causes.{io_named}

cause_read : {before now : FaultCount} (reply : ReadReply) (result : Result ReadResult FsError) → HasCause before now (hosted reply)
    → read_shown result ≡ read_answer reply → FsCause before now result
cause_read reply (Ok r) cause shown = record { later = cause.later; most = cause.most; io = λ is. absurd (cc) }
cause_read (Ok bytes) (Err e) cause shown = absurd (cc)
cause_read (Err code) (Err e) cause shown = record {
  later = cause.later;
  most = cause.most;
  io = λ is.
      let same : code_named code ≡ Io = cc in
      cause.io (ap (λ (c : LowerCode). let r : ReadReply = Err c in hosted r) (io_named code same));
}

-- the host was asked, and gave this reply
pub read_so : {H : Type 0} {host : Ghosts H} {ctx : WasiFilesystemCtx H} {h : H} {table : Table} {fd len offset : ℕ}
    {file : File} {reply : ReadReply} {result : Result ReadResult FsError}
    → file_at table.entries fd ≡ Ok file → AreOwned (host.live ctx.host) ctx.preopens.items table.entries
    → HasRead host.modelled (seen_in host (files_of ctx table)) (seen_in host (files_of (record ctx { host = h }) table)) file.file
    offset len reply
    → read_shown result ≡ read_answer reply
    → ReadsFile host (files_of ctx table) (files_of (record ctx { host = h }) table) fd len offset result
read_so {H} {host} {ctx} {h} {table} {fd} {len} {offset} {file} {reply} {result} is owned reads shown = record {
  asks = record {
    ctx = refl;
    table = refl;
    cause = cause_read reply result reads.cause shown;
    live = reads.stays;
    owned = rw reads.stays owned;
  };
  logged = reads.logged;
  did = rw is (inr (reply, shown, reads));
}

-- what is shown of bytes that were read
pub shown_so : (r : ReadResult) {bytes : List ℕ} → r.bytes.items ≡ bytes → r.end ≡ is_none_left bytes
    → read_shown (Ok r) ≡ read_answer (Ok bytes)
shown_so r {bytes} items end =
    ap (λ (p : List ℕ × Bool). let answer : Result (List ℕ × Bool) FsError = Ok p in answer) (λ i. (items i, end i))
