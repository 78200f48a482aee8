-- Laws of descriptor numbers, and of the positions of files.
use Rattle.std.specs.Prelude.{ℕ, ◌<◌, ◌≤◌, ◌≡◌, ◌⊎◌, ◌↔◌, false, length, slice_get, Some, Ok, ℤ}
use Rattle.wasi_guest.specs.declared.answer.Value.{Value}
use Rattle.wasi_guest.specs.declared.answer.Value.TheVariants.{Number}
use Rattle.wasi_guest.specs.declared.call.Call.{Call}
use Rattle.wasi_guest.specs.declared.call.Call.TheVariants as calls
use Rattle.wasi_p1_types.specs.Front.{with_fuel}
use Rattle.wasi_p1_types.specs.Guest.{Guest, GuestSlot, State, closed, is_closed}
use Rattle.wasi_p1_model.specs.Calls.{turn}
use Rattle.wasi_p1_model.specs.Trace.{TraceStep, Played, Faulted}

-- ---- numbers

-- a number stands for something
pub record IsLiveNumber (g : Guest) (n : ℕ) : Type 0 where
  pub slot : GuestSlot
  pub at : slice_get g.slots n ≡ Some slot
  pub in_use : is_closed slot ≡ false

-- a number stood for something
abbrev pub IsClosedNumber : Guest → ℕ → Type 0
IsClosedNumber g n = slice_get g.slots n ≡ Some closed

-- the live and the closed numbers together are those below a number
abbrev pub NumbersAreDense : Type 0
NumbersAreDense = (g : Guest) (n : ℕ) → (IsLiveNumber g n ⊎ IsClosedNumber g n) ↔ n < length g.slots

-- the number of a new descriptor is the largest closed one, and where none is closed the first that never stood for
-- anything
pub record IsLargestClosed (g : Guest) (n : ℕ) : Type 0 where
  pub most : (m : ℕ) → IsClosedNumber g m → m ≤ n
  pub closed_or_next : IsClosedNumber g n ⊎ (((m : ℕ) → IsClosedNumber g m → ⊥) × (n ≡ length g.slots))

-- which an open answers
abbrev pub OpensTheLargestClosed : Type 0
OpensTheLargestClosed =
    (s s' : State) (x : Value) (fuel fd dirflags path path_len oflags base inheriting fdflags : ℕ)
    → turn s (with_fuel fuel (calls.PathOpen fd dirflags path path_len oflags base inheriting fdflags)) ≡ Ok (x, s')
    → (n : ℕ) × (x ≡ Number n) × IsLargestClosed s.guest n

-- no more numbers were given than so many, which is how many descriptors may be live
abbrev pub FitsTable : ℕ → Guest → Type 0
FitsTable most g = (length g.slots ≤ most) × (g.table_max ≡ most)

-- and each turn keeps it so: a number is new only where none is closed
abbrev pub NumbersFit : Type 0
NumbersFit = (most : ℕ) (t : TraceStep) → Played t ⊎ Faulted t → FitsTable most t.before.guest → FitsTable most t.after.guest

-- ---- positions

-- a position that was sought is told
abbrev pub SeeksAreTold : Type 0
SeeksAreTold =
    (s s' : State) (x : Value) (fuel again fd whence : ℕ) (offset : ℤ)
    → turn s (with_fuel fuel (calls.FdSeek fd offset whence)) ≡ Ok (x, s')
    → turn s' (with_fuel again (calls.FdTell fd)) ≡ Ok (x, s')

-- what is read or written at an offset leaves all descriptors, and so their positions
abbrev pub LeavesDescriptors : Call → Type 0
LeavesDescriptors call =
    (s s' : State) (x : Value) (fuel : ℕ) → turn s (with_fuel fuel call) ≡ Ok (x, s') → s'.guest.slots ≡ s.guest.slots

abbrev pub OffsetsLeavePositions : Type 0
OffsetsLeavePositions =
    (fd iovs n offset : ℕ)
    → LeavesDescriptors (calls.FdPread fd iovs n offset) × LeavesDescriptors (calls.FdPwrite fd iovs n offset)
