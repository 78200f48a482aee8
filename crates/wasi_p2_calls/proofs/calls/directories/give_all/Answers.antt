use Rattle.std.proofs.Common.{Ok}
use Rattle.wasi_p2_calls.proofs.Giving.{gave_all, owned_lives}
use Rattle.wasi_p2_calls.proofs.calls.directories.give_all.Goals as goal

pub give_each-requires-clause-live : goal.give_each-requires-clause-live
give_each-requires-clause-live g c = rw c.as_slice.ensures.value (owned_lives c.requires.owned)

pub returns : goal.returns
returns g c = rw (c.in_ok-give_each.ensures.gives.1, c.in_ok-made.ensures.items) (gave_all
    (Ok c.in_ok-give_each.ensures.gives.0) c.as_slice.ensures.value c.requires.owned c.in_ok-give_each.ensures.gives.2)
