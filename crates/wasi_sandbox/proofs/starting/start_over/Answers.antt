use Rattle.std.proofs.Common.{refl}
use Rattle.wasi_sandbox.proofs.starting.start_over.Goals as goal

pub begin_over-requires : goal.begin_over-requires
begin_over-requires c =
    let new = c.new.ensures in
    let session = c.in_ok-session.ensures in
    record {
      within = rw new.tree session.within;
      none = new.live;
      untouched = new.touched;
      unasked = new.lookups;
      rising = session.rising;
      quota = session.quota;
    }

pub returns : goal.returns
returns c =
    let begins = rw c.new.ensures.tree at c.in_ok-begun.ensures.begins in
    rw c.of_state.ensures (record {
      starts = (
        _,
        c.in_ok-session.ensures.judged,
        record { begun = begins.begun; faults = begins.faults; fuel = begins.fuel; answered = refl; running = refl },
      );
    })
