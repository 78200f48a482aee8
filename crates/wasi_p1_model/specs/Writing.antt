-- What an answered write did.
use Rattle.std.specs.Prelude.{ℕ, ◌+◌, ◌≡◌, List, length, slice_get, slice_range, if◌then◌else◌, Ok}
use Rattle.wasi_fs.specs.OpenFlags.{includes}
use Rattle.wasi_fs.specs.OpenMode.{mode_bits}
use Rattle.wasi_host.specs.Answer.{size_of}
use Rattle.wasi_host.specs.Step.{write_step}
use Rattle.wasi_host.specs.Tree.{Tree, bytes_of, node_at}
use Rattle.wasi_guest.specs.declared.call.Call.TheVariants as calls
use Rattle.wasi_guest.specs.declared.answer.Value.{Value}
use Rattle.wasi_guest.specs.declared.answer.Value.TheVariants.{Number}
use Rattle.wasi_guest.specs.declared.iovec.Iovec.{Iovec}
use Rattle.wasi_guest.specs.Iovec.{first_buffer}
use Rattle.wasi_p1_types.specs.Guest.{Guest, OpenFile, State}
use Rattle.wasi_p1_types.specs.Front.{with_fuel}
use Rattle.wasi_p1_types.specs.SpecParts.{WriteTarget, output, into, write_target_in, at_position, with_file}
use Rattle.wasi_p1_model.specs.Putting.{put_end}
use Rattle.wasi_p1_types.specs.Quotas.{counted_growth, growth_to}
use Rattle.wasi_p1_types.specs.Request.{size_at}
use Rattle.wasi_p1_model.specs.Calls.{turn}
use Rattle.wasi_p1_types.specs.Services.{written}

-- where a piece is put into a file: after its last byte in append mode, and else at its position
abbrev pub put_from : Tree → OpenFile → ℕ
put_from t f = if f.modes.append then length (bytes_of (node_at t f.node).content) else f.position

-- where the position is then: in append mode it is the file's size, and else it is after the piece
abbrev pub put_to : Tree → OpenFile → List ℕ → ℕ
put_to t f piece = if f.modes.append then size_of (node_at t f.node).content else f.position + length piece

-- by how many bytes a piece makes a file longer; of one that wasn't opened for writing that is 0
abbrev pub put_growth : Tree → OpenFile → ℕ → List ℕ → ℕ
put_growth t f offset piece =
    if includes (mode_bits f.open_mode) 2 then growth_to (size_at t f.node) (put_end f.modes.append offset piece) else 0

-- a guest for which so many grown bytes more are counted
abbrev pub with_grown : ℕ → Guest → Guest
with_grown growth g = record g { holdings = counted_growth growth g.holdings }

abbrev pub file_after : Guest → ℕ → OpenFile → List ℕ → ℕ → Tree → State
file_after g fd f piece growth t =
    record { tree = t; guest = with_grown growth (with_file g fd (at_position f (put_to t f piece))) }

-- A piece is put whole after what was written to an output, or into a file, whose growth is counted where a bound is
-- set; and nothing else changes
abbrev pub written_to : State → ℕ → List ℕ → WriteTarget → State
written_to s fd piece (output o) =
    record { tree = s.tree; guest = record s.guest { holdings = written s.guest.holdings o piece } }
written_to s fd piece (into f) =
    file_after s.guest fd f piece (put_growth s.tree f f.position piece)
    (write_step s.tree f.node (put_from s.tree f) piece)

-- the bytes of a buffer
abbrev pub buffer_bytes : List ℕ → Iovec → List ℕ
buffer_bytes memory buffer = slice_range memory buffer.buf (buffer.buf + buffer.buf_len)

-- the first buffer that has bytes is put so, and its length is the answer
pub record WritesWhole (s s' : State) (fd iovs n : ℕ) (x : Value) : Type 0 where
  pub buffer : Iovec
  pub first : first_buffer s.guest.memory iovs n ≡ Ok buffer
  pub sink : WriteTarget
  pub named : write_target_in (slice_get s.guest.slots fd) ≡ Ok sink
  pub answer : x ≡ Number buffer.buf_len
  pub after : s' ≡ written_to s fd (buffer_bytes s.guest.memory buffer) sink

-- so does every write that is answered
abbrev pub WritesAreWhole : Type 0
WritesAreWhole =
    (s s' : State) (fuel fd iovs n : ℕ) (x : Value) → turn s (with_fuel fuel (calls.FdWrite fd iovs n)) ≡ Ok (x, s') → WritesWhole s s' fd iovs n x
