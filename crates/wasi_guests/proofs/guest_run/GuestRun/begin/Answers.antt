use Rattle.std.proofs.Common.{refl, arith}
use Rattle.wasi_guests.proofs.ApartLemmas.{directories_still}
use Rattle.wasi_guests.proofs.guest_run.GuestRun.begin.Goals as goal

pub first_context-requires-clause-directories : goal.first_context-requires-clause-directories
first_context-requires-clause-directories c = rw (c.as_slice.ensures.value, c.new.ensures.tree)
    (directories_still c.args.base.now.tree c.args.plan.preopens.items c.requires.directories)

pub returns : goal.returns
returns c =
    let begun = rw c.as_slice.ensures.value at c.in_ok-context.ensures.begun in
    rw c.of.ensures (record {
      state = rw c.new.ensures.tree at (begun.state c.args.plan.memory);
      untouched = begun.untouched;
      unfailing = rw c.new-2.ensures.items at c.in_ok-context.ensures.faults;
      calls = refl;
      first = refl;
      unanswered = c.in_ok-with_room.ensures.empty;
      room = omega (arith, c.in_ok-with_room.ensures.room, c.len.ensures);
      unmade = c.new-3.ensures.items;
    })
