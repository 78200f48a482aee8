use Rattle.wasi_form.proofs.GuestsWithin.{by_sessions}
use Rattle.wasi_form.proofs.within.are_guests_within.Goals as goal

pub returns : goal.returns
returns c =
    let script = c.args.script.now in
    rw (by_sessions script.nodes.nodes script.nodes.limits script.guests.items script.schedule.items, ← c.list.ensures.nodes, ← c.as_slice.ensures.value)
    c.are_within_on.ensures
