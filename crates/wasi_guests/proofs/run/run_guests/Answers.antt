use Rattle.std.proofs.Common.{arith}
use Rattle.wasi_guests.proofs.ApartLemmas.{all_in}
use Rattle.wasi_guests.proofs.run.run_guests.Goals as goal

pub lowest_shared-requires : goal.lowest_shared-requires
lowest_shared-requires c =
    rw (c.as_slice-2.ensures.value, c.in_ok-directories.ensures, c.as_slice.ensures.value) (all_in c.args.guests.items c.requires.begin)

pub returns-in-Some-clause-outcome : goal.returns-in-Some-clause-outcome
returns-in-Some-clause-outcome c =
    rw (c.as_slice-2.ensures.value, c.in_ok-directories.ensures, c.as_slice.ensures.value, c.in-Some.is) at c.in_ok-node.ensures

pub returns-then-not-has_room-clause-outcome : goal.returns-then-not-has_room-clause-outcome
returns-then-not-has_room-clause-outcome c = (
  rw (c.as_slice-2.ensures.value, c.in_ok-directories.ensures, c.as_slice.ensures.value, c.in_default.is) at c.in_ok-node.ensures,
  grind (arith, c.if-not-has_room.ensures, c.if-not-has_room.true, c.len.ensures),
)

pub run_apart-requires-clause-apart : goal.run_apart-requires-clause-apart
run_apart-requires-clause-apart c =
    rw (c.as_slice-2.ensures.value, c.in_ok-directories.ensures, c.as_slice.ensures.value, c.in_default.is) at c.in_ok-node.ensures

pub returns-clause-outcome : goal.returns-clause-outcome
returns-clause-outcome c = (
  rw (c.as_slice-2.ensures.value, c.in_ok-directories.ensures, c.as_slice.ensures.value, c.in_default.is) at c.in_ok-node.ensures,
  grind (arith, c.if-not-has_room.ensures, c.if-not-has_room.false, c.len.ensures),
  rw c.as_slice-3.ensures.value at c.in_ok-run_apart.ensures.alone,
)
