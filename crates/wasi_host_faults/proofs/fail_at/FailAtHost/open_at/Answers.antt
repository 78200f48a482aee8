use Rattle.std.proofs.Common.{◌∙◌, ap, inl, inr, arith}
use Rattle.std.proofs.lemmas.Bool.Decides.{nat_tests}
use Rattle.std.specs.FinSet.{members, remove}
use Rattle.wasi_host.proofs.Chain.{remove-insert}
use Rattle.wasi_host_faults.proofs.Fating.{told_closed}
use Rattle.wasi_host_faults.proofs.fail_at.FailAtHost.open_at.Goals as goal

pub close-requires : goal.close-requires
close-requires g c = rw c.in-Ok.ensures.live.1 (grind (arith, members, nat_tests))

pub returns-in-Ok-clause-live : goal.returns-in-Ok-clause-live
returns-in-Ok-clause-live g c =
    rw (← c.self.view_is) (c.close.ensures.live ∙ ap (λ s. remove s c.in-Ok.handle) c.in-Ok.ensures.live.1
    ∙ remove-insert _ _ c.in-Ok.ensures.live.0)

-- the handle was got and closed again; what is between is the model after the open
pub returns-in-Ok-clause-modelled : goal.returns-in-Ok-clause-modelled
returns-in-Ok-clause-modelled g c = λ modelled.
    rw (← c.self.view_is) (told_closed (λ h old. rw c.in-Ok.ensures.live.1 (grind (arith, members, nat_tests)))
    (c.close.ensures.modelled modelled) (c.in-Ok.ensures.modelled modelled))

pub returns-in-Ok-clause-found : goal.returns-in-Ok-clause-found
returns-in-Ok-clause-found g c = λ tells.
    rw (← c.self.view_is) (elim (c.in-Ok.ensures.found tells) [
      | inl modelled ↦ inl (told_closed (λ h old. rw c.in-Ok.ensures.live.1 (grind (arith, members, nat_tests)))
          (c.close.ensures.left tells) modelled)
      | inr failed ↦ absurd (cc)
    ])
