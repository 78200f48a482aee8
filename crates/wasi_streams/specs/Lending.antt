-- What a write through a lent entry leaves.
use Rattle.std.specs.Prelude.{ℕ, List, Result}
use Rattle.std.specs.Borrow.{Lends, LendsIfOk, MutBor, Fml}
use Rattle.std.specs.FinMap as maps
use Rattle.wasi_host.specs.Answer.{Listed}
use Rattle.wasi_streams.specs.Table.{Table}
use Rattle.wasi_streams.specs.contracts.table.ResourceTable.{the_row}
use Rattle.wasi_streams.specs.contracts.entry.Entry as entry
use Rattle.wasi_streams.specs.contracts.input.FileInputStream as input
use Rattle.wasi_streams.specs.contracts.output.FileOutputStream as output
use Rattle.wasi_streams.specs.contracts.readdir.ReaddirIterator as readdir
use Rattle.wasi_streams.specs.Input as inputs
use Rattle.wasi_streams.specs.Output as outputs
use Rattle.wasi_streams.specs.declared.entry.Entry.TheVariants.{Input, Output, Readdir}
use Rattle.wasi_streams.specs.declared.entry.Entry.{Entry}
use Rattle.wasi_streams.specs.declared.errors.TableError.{TableError}

-- a table with another entry under this number
abbrev pub with_entry_at : Table → ℕ → Entry → Table
with_entry_at t n e = record t { entries = maps.insert t.entries n e }

-- the table ends with the last entry after the reference under its number
abbrev pub LendsAt : MutBor Table → ℕ → MutBor Entry → Fml
LendsAt t n r = Lends the_row entry.the_row t r (with_entry_at t.now n)

-- the table ends with the last entry after the reference under its number; as it was where there is none
abbrev pub LendsEntry : MutBor Table → ℕ → Result (MutBor Entry) TableError → Fml
LendsEntry t n r = LendsIfOk the_row entry.the_row t r (with_entry_at t.now n) t.now

-- the same of one kind of entry
abbrev pub LendsInput : MutBor Table → ℕ → Result (MutBor inputs.Input) TableError → Fml
LendsInput t n r = LendsIfOk the_row input.the_row t r (λ w. with_entry_at t.now n (Input w)) t.now

abbrev pub LendsOutput : MutBor Table → ℕ → Result (MutBor outputs.Output) TableError → Fml
LendsOutput t n r = LendsIfOk the_row output.the_row t r (λ w. with_entry_at t.now n (Output w)) t.now

abbrev pub LendsReaddir : MutBor Table → ℕ → Result (MutBor (List Listed)) TableError → Fml
LendsReaddir t n r = LendsIfOk the_row readdir.the_row t r (λ w. with_entry_at t.now n (Readdir w)) t.now
