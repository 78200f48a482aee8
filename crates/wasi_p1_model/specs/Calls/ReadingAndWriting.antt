-- The specifications of the calls that read and write by a number.
use Rattle.std.specs.Prelude.{ℕ, ◌+◌, min, List, length, slice_get}
use Rattle.wasi_guest.specs.Range.{with_bytes}
use Rattle.wasi_guest.specs.declared.answer.Value.TheVariants.{Number}
use Rattle.wasi_guest.specs.declared.iovec.Iovec.{Iovec}
use Rattle.wasi_host.specs.HostCall.{Pread}
use Rattle.wasi_p1_types.specs.Files.{file_in, read_place_in}
use Rattle.wasi_p1_types.specs.Front.{CallFront, free, answer, ask, at_buffer, ◌>>=◌}
use Rattle.wasi_p1_types.specs.Guest.{Guest, OpenFile}
use Rattle.wasi_p1_types.specs.SpecParts.{ReadTarget, input, from, read_target_in, WriteTarget, output, into, write_target_in, held_by, may_write, at_position, with_file}
use Rattle.wasi_p1_model.specs.Putting.{put_call, count_in, put_request, put_in, put_answer}
use Rattle.wasi_p1_types.specs.Quotas.{allowance}
use Rattle.wasi_p1_types.specs.Request.{Direct}
use Rattle.wasi_p1_types.specs.CallResult.{give}
use Rattle.wasi_p1_types.specs.Services.{input_into, written}
use Rattle.wasi_p1_types.specs.Spending.{growing}
use Rattle.wasi_p1_types.specs.declared.usage.FileUse.TheVariants.{WriteAt}

-- a buffer is filled from a file at an offset, as its host refuses, with no more than 65,536 bytes at once
abbrev pub read_into : Guest → OpenFile → ℕ → Iovec → CallFront
read_into g f offset buffer = ask (Direct (Pread (held_by f) offset (min buffer.buf_len 65536)))
    (λ bytes. give (Number (length bytes), record g { memory = with_bytes g.memory buffer.buf bytes }))

-- of a number that is a file's, and not the standard input's, where there is room for a stream; the position stays, and
-- the answer is the number of bytes that were read
unfoldable pub fd_pread : Guest → ℕ → ℕ → ℕ → ℕ → CallFront
fd_pread g fd iovs n offset = at_buffer g (read_place_in g.slots g.table_max (slice_get g.slots fd)) iovs n
    (λ f buffer _. read_into g f offset buffer)

-- a piece goes into a file, as its host refuses, and before that read-only permissions `badf`, and what passes the
-- bound on bytes `dquot`: after the last byte in append mode, and else from an offset on
abbrev pub write_into : Guest → OpenFile → ℕ → List ℕ → CallFront
write_into g f offset piece = do
  _ ← free (may_write f.perms)
  growing (allowance g.holdings f.open_mode) (ask (Direct (put_call f.modes.append (held_by f) offset piece))
      (λ answer. give (Number (count_in f.modes.append (held_by f) offset piece answer), g)))

-- of a number that is a file's, and not an output's; the position stays, and the answer is the number of bytes that
-- were taken
unfoldable pub fd_pwrite : Guest → ℕ → ℕ → ℕ → ℕ → CallFront
fd_pwrite g fd iovs n offset =
    at_buffer g (file_in WriteAt (slice_get g.slots fd)) iovs n (λ f _ piece. write_into g f offset piece)

-- a buffer is filled from the standard input, or from a file, as its host refuses: the position is after the bytes
abbrev pub read_from : Guest → ℕ → ReadTarget → Iovec → CallFront
read_from g fd input buffer = do
  read ← free (input_into g.memory g.holdings buffer)
  answer (Number read.0, record g { memory = read.1.0; holdings = read.1.1 })
read_from g fd (from f) buffer = ask (Direct (Pread (held_by f) f.position buffer.buf_len)) (λ bytes. give (
  Number (length bytes),
  record (with_file g fd (at_position f (f.position + length bytes))) {
    memory = with_bytes g.memory buffer.buf bytes;
  },
))

-- of a number that is a file's or the standard input's; the answer is the number of bytes that were read
unfoldable pub fd_read : Guest → ℕ → ℕ → ℕ → CallFront
fd_read g fd iovs n =
    at_buffer g (read_target_in (slice_get g.slots fd)) iovs n (λ source buffer _. read_from g fd source buffer)

-- A piece goes to an output, or into a file, as its host refuses, and before that read-only permissions `badf`, and
-- what passes the bound on bytes `dquot`. The position is after the bytes; in append mode they go after the last
-- byte, and the position is the file's size
abbrev pub write_to : Guest → ℕ → WriteTarget → List ℕ → CallFront
write_to g fd (output o) piece =
    answer (Number (length piece), record g { holdings = written g.holdings o piece })
write_to g fd (into f) piece = do
  _ ← free (may_write f.perms)
  growing (allowance g.holdings f.open_mode) (ask (put_request f.modes.append (held_by f) f.position piece)
      (λ reply. give (put_answer g fd f (put_in f.modes.append (held_by f) f.position piece reply))))

-- of a number that is a file's or an output's; the answer is the number of bytes that were taken
unfoldable pub fd_write : Guest → ℕ → ℕ → ℕ → CallFront
fd_write g fd iovs n =
    at_buffer g (write_target_in (slice_get g.slots fd)) iovs n (λ sink _ piece. write_to g fd sink piece)
