use Rattle.std.proofs.Common.{refl, [], ◌∷◌}
use Rattle.wasi_host.proofs.Leaving.{Contains-here}
use Rattle.std.proofs.lemmas.List.Elements.{Contains-push}
use Rattle.wasi_p1_model.specs.Calls.Descriptors.{fd_renumber}
use Rattle.wasi_p1_model.proofs.Renumbering.{renumber_stays, renumbered-map}
use Rattle.wasi_p1_model.proofs.Taking.{answered}
use Rattle.wasi_p1_fd_calls.proofs.descriptors.fd_renumber.Goals as goal

pub returns-clause-spec : goal.returns-clause-spec
unfolding fd_renumber
returns-clause-spec g c = let given = c.renumber_slot.ensures in rw (← c.context.view_is) (answered
    (rw (← c.in_ok-live_at.ensures.specified, ← c.in_ok-slot.ensures.specified, given.slots, given.max, renumbered-map) refl) refl
    (renumber_stays _ _ (Contains-here _ (_ ∷ [])) (Contains-push (_ ∷ []) _) (Contains-here _ (_ ∷ []))
    (Contains-push (_ ∷ []) _) given.slots)
    (record { failed = given.faults; looked = given.logged }) given.stays)
