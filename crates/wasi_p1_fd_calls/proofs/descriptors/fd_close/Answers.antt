use Rattle.std.proofs.Common.{refl, []}
use Rattle.std.proofs.lemmas.List.{map-set}
use Rattle.wasi_host.proofs.Leaving.{Contains-here}
use Rattle.wasi_p1_model.specs.Calls.Descriptors.{fd_close}
use Rattle.wasi_p1_model.proofs.Staying.{close_stays}
use Rattle.wasi_p1_model.proofs.Taking.{answered}
use Rattle.wasi_p1_fd_calls.proofs.descriptors.fd_close.Goals as goal

pub returns-clause-spec : goal.returns-clause-spec
unfolding fd_close
returns-clause-spec g c = rw (← c.context.view_is) (answered
    (rw (← c.in_ok-slot.ensures.specified, c.close_slot.ensures.slots, c.close_slot.ensures.max, map-set) refl) refl
    (close_stays _ (Contains-here _ []) (Contains-here _ []) c.close_slot.ensures.slots)
    (record { failed = c.close_slot.ensures.faults; looked = c.close_slot.ensures.logged })
    c.close_slot.ensures.stays)
