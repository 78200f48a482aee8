-- A byte that is written at an offset of a file is the one that is read there.
use Rattle.std.specs.Prelude.{ℕ, ◌+◌, ◌<◌, ◌≡◌, true, false, min, List, length, take, drop, slice_get, Some, Ok}
use Rattle.wasi_host.specs.HostLaws.{AllHeld, Handles, IsHeld, HostModel}
use Rattle.wasi_host.specs.Refusal.{can_write}
use Rattle.wasi_host.specs.Step.{write_step}
use Rattle.wasi_host.specs.Tree.{Tree, bytes_of, node_at}
use Rattle.wasi_guest.specs.declared.call.Call.TheVariants as calls
use Rattle.wasi_guest.specs.declared.answer.Value.{Value}
use Rattle.wasi_guest.specs.declared.answer.Value.TheVariants.{Number}
use Rattle.wasi_guest.specs.declared.iovec.Iovec.{Iovec}
use Rattle.wasi_guest.specs.Iovec.{first_buffer}
use Rattle.wasi_guest.specs.Range.{IsInMemory, with_bytes}
use Rattle.wasi_p1_types.specs.Guest.{OpenFile, State, file, guest_slots}
use Rattle.wasi_p1_types.specs.Front.{with_fuel}
use Rattle.wasi_p1_model.specs.Owners.{Owned, handles}
use Rattle.wasi_p1_types.specs.SpecParts.{held_by}
use Rattle.wasi_p1_model.specs.Calls.{turn}
use Rattle.wasi_p1_model.specs.Writing.{buffer_bytes, put_growth, with_grown}
use Rattle.wasi_p1_types.specs.declared.slots.Slot.{Slot}

-- the bytes of a file, by its node
abbrev pub file_bytes : Tree → ℕ → List ℕ
file_bytes t n = bytes_of (node_at t n).content

-- those that a buffer of this length takes from an offset on: no more than 65,536
abbrev pub bytes_from : Tree → ℕ → ℕ → ℕ → List ℕ
bytes_from t n offset buf_len = take (min buf_len 65536) (drop offset (file_bytes t n))

-- the first buffer that has bytes is put into the file whole, from the offset on, and its length is the answer; the
-- file's growth is counted where a bound is set, and nothing else changes
pub record PutsAt (s s' : State) (f : OpenFile) (iovs n offset : ℕ) (x : Value) : Type 0 where
  pub buffer : Iovec
  pub first : first_buffer s.guest.memory iovs n ≡ Ok buffer
  pub inside : IsInMemory s.guest.memory buffer.buf buffer.buf_len
  pub may : can_write f.mode ≡ true
  pub answer : x ≡ Number buffer.buf_len
  pub after : s' ≡ record {
    tree = write_step s.tree f.node offset (buffer_bytes s.guest.memory buffer);
    guest = with_grown (put_growth s.tree f offset (buffer_bytes s.guest.memory buffer)) s.guest;
  }

-- so does every `fd_pwrite` that is answered, of a file that isn't in append mode
abbrev pub BytesArePut : Type 0
BytesArePut =
    (s s' : State) (fuel fd iovs n offset : ℕ) (x : Value) (f : OpenFile) → slice_get s.guest.slots fd ≡ Some (file f)
    → f.modes.append ≡ false → turn s (with_fuel fuel (calls.FdPwrite fd iovs n offset)) ≡ Ok (x, s')
    → PutsAt s s' f iovs n offset x

-- the file of each descriptor of a context is held, where its host tells
abbrev pub FilesAreHeld : Type 0
FilesAreHeld =
    (w : HostModel) (live : Handles) (table : List Slot) (fd : ℕ) (f : OpenFile) → AllHeld live w
    → Owned live (handles table) → slice_get (guest_slots w.held table) fd ≡ Some (file f) → IsHeld w.tree (held_by f)

-- where the file is held, each byte of the buffer stands in it then
abbrev pub PutBytesStand : Type 0
PutBytesStand =
    (s s' : State) (f : OpenFile) (iovs n offset : ℕ) (x : Value) (put : PutsAt s s' f iovs n offset x)
    → IsHeld s.tree (held_by f) → (k : ℕ) → k < put.buffer.buf_len
    → slice_get (file_bytes s'.tree f.node) (offset + k) ≡ slice_get s.guest.memory (put.buffer.buf + k)

-- the bytes of the file from the offset on, as many as the first buffer that has bytes takes, are put into it, and how
-- many they are is the answer; nothing else changes
pub record GetsFrom (s s' : State) (f : OpenFile) (iovs n offset : ℕ) (x : Value) : Type 0 where
  pub buffer : Iovec
  pub first : first_buffer s.guest.memory iovs n ≡ Ok buffer
  pub inside : IsInMemory s.guest.memory buffer.buf buffer.buf_len
  pub answer : x ≡ Number (length (bytes_from s.tree f.node offset buffer.buf_len))
  pub after : s' ≡ record s {
    guest = record s.guest {
      memory = with_bytes s.guest.memory buffer.buf (bytes_from s.tree f.node offset buffer.buf_len);
    };
  }

-- so does every `fd_pread` of a file that is answered
abbrev pub BytesAreGot : Type 0
BytesAreGot =
    (s s' : State) (fuel fd iovs n offset : ℕ) (x : Value) (f : OpenFile) → slice_get s.guest.slots fd ≡ Some (file f)
    → turn s (with_fuel fuel (calls.FdPread fd iovs n offset)) ≡ Ok (x, s') → GetsFrom s s' f iovs n offset x

-- While the file has the byte of a place that it had after the write, a read that comes to the place puts the byte that
-- was written into memory: byte k of what was put, as byte j of what is got
abbrev pub PutBytesAreGot : Type 0
PutBytesAreGot =
    (s s' t t' : State) (f g : OpenFile) (iovs n offset iovs' n' offset' : ℕ) (x y : Value)
    (put : PutsAt s s' f iovs n offset x) (got : GetsFrom t t' g iovs' n' offset' y)
    → IsHeld s.tree (held_by f) → g.node ≡ f.node → (k j : ℕ) → k < put.buffer.buf_len
    → j < min got.buffer.buf_len 65536 → offset' + j ≡ offset + k
    → slice_get (file_bytes t.tree f.node) (offset + k) ≡ slice_get (file_bytes s'.tree f.node) (offset + k)
    → slice_get t'.guest.memory (got.buffer.buf + j) ≡ slice_get s.guest.memory (put.buffer.buf + k)
