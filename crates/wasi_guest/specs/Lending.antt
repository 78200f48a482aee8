-- What a write through a lent range leaves.
use Rattle.std.specs.Prelude.{ℕ, List, ◌++◌, length, take, drop, Bool, Option}
use Rattle.std.specs.Borrow.{Lends, LendsIf, MutBor, Fml, Array, u8}
use Rattle.wasi_guest.specs.Range.{lent_at, with_bytes}
use Rattle.wasi_guest.specs.contracts.memory.GuestMemory.{the_row}

-- memory ends as the last bytes after the slice, which are as many
abbrev pub LendsAll : MutBor (List ℕ) → MutBor (List ℕ) → Fml
LendsAll memory bytes =
    Lends the_row (Array u8 0) memory bytes (λ others. take (length memory.now) (others ++ drop (length others) memory.now))

-- memory ends with the last bytes after the slice from that address on
abbrev pub LendsFrom : MutBor (List ℕ) → ℕ → MutBor (List ℕ) → Fml
LendsFrom memory at part = Lends the_row (Array u8 0) memory part (with_bytes memory.now at)

-- the same where there is a slice; memory stays as it was where there is none
abbrev pub LendsFromIf : MutBor (List ℕ) → ℕ → Option (MutBor (List ℕ)) → Fml
LendsFromIf memory at part = LendsIf the_row (Array u8 0) memory part (with_bytes memory.now at) memory.now

-- the same of a slice that has no bytes where the range isn't in memory
abbrev pub LendsFound : MutBor (List ℕ) → ℕ → ℕ → Bool × MutBor (List ℕ) → Fml
LendsFound memory at n part = Lends the_row (Array u8 0) memory part.1 (with_bytes memory.now (lent_at memory.now at n))
