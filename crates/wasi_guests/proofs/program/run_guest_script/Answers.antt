use Rattle.std.proofs.Common.{[], false, refl, sym}
use Rattle.wasi_io.proofs.EndingLemmas.{may_take, takes}
use Rattle.wasi_guests.specs.GuestsDue.{the_usage, IsText}
use Rattle.wasi_guests.specs.Status.{extent}
use Rattle.wasi_guests.proofs.TopLemmas.{status_due, text_due}
use Rattle.wasi_guests.proofs.program.run_guest_script.Goals as goal

-- ---- `run`

pub returns-then-is_run-clause-read_fault : goal.returns-then-is_run-clause-read_fault
returns-then-is_run-clause-read_fault g c = λ fault.
    let is = rw c.as_slice.ensures.value at (sym c.if-is_run.ensures) in
    (is, c.run_source.ensures.read_fault fault)

pub returns-then-is_run-clause-exact : goal.returns-then-is_run-clause-exact
returns-then-is_run-clause-exact g c = λ tells.
    let is = rw c.as_slice.ensures.value at (sym c.if-is_run.ensures) in
    rw is (c.run_source.ensures.exact tells)

pub returns-then-is_run-clause-writes : goal.returns-then-is_run-clause-writes
returns-then-is_run-clause-writes g c = λ tells takes.
    let is = rw c.as_slice.ensures.value at (sym c.if-is_run.ensures) in
    rw is (c.run_source.ensures.writes tells takes)

pub returns-then-is_run-clause-some : goal.returns-then-is_run-clause-some
returns-then-is_run-clause-some g c = λ takes.
    let is = rw c.as_slice.ensures.value at (sym c.if-is_run.ensures) in
    rw is (c.run_source.ensures.some takes)

-- ---- other words

pub returns-else-is_run-clause-exact : goal.returns-else-is_run-clause-exact
returns-else-is_run-clause-exact g c = λ tells.
    let is = rw c.as_slice.ensures.value at (sym c.if-is_run.ensures) in
    rw is (status_due false (g.S.Source.left c.args.source.now) the_usage tt c.write_under.ensures.written)

pub returns-else-is_run-clause-usage_line : goal.returns-else-is_run-clause-usage_line
returns-else-is_run-clause-usage_line g c = λ modelled other.
    takes extent refl refl (IsText the_usage) modelled c.as_bytes.ensures.value c.write_under.ensures.written

pub returns-else-is_run-clause-nothing : goal.returns-else-is_run-clause-nothing
returns-else-is_run-clause-nothing g c = λ modelled. may_take extent refl refl c.write_under.ensures.written

pub returns-else-is_run-clause-writes : goal.returns-else-is_run-clause-writes
returns-else-is_run-clause-writes g c = λ tells modelled.
    let is = rw c.as_slice.ensures.value at (sym c.if-is_run.ensures) in
    rw is (text_due false (g.S.Source.left c.args.source.now) the_usage tt c.write_under.ensures.written modelled c.as_bytes.ensures.value)

pub returns-else-is_run-clause-some : goal.returns-else-is_run-clause-some
returns-else-is_run-clause-some g c = λ modelled.
    let is = rw c.as_slice.ensures.value at (sym c.if-is_run.ensures) in
    rw is (([], text_due false [] the_usage tt c.write_under.ensures.written modelled c.as_bytes.ensures.value))
