use Rattle.wasi_tree.proofs.SlotLemmas.{holds-given}
use Rattle.wasi_tree.proofs.MemLemmas.{cause_of, fated, holds-on}
use Rattle.wasi_tree.proofs.tree_host.TreeHostHost.open_at.Goals as goal

pub returns-in-Err-Code-clause-cause : goal.returns-in-Err-Code-clause-cause
returns-in-Err-Code-clause-cause g c = rw (← c.in-Err-Code.field-0-is) (cause_of _ _ c.in-Err-Code.ensures.does)

pub returns-in-Err-Code-clause-fails : goal.returns-in-Err-Code-clause-fails
returns-in-Err-Code-clause-fails g c = λ _. fated _ (returns-in-Err-Code-clause-cause g c)

pub invariant_of-self-in-Ok : goal.invariant_of-self-in-Ok
invariant_of-self-in-Ok g c =
    holds-given _ _ _ _ _ _
    (rw c.reserve.ensures.same (holds-on c.self.invariant c.in-Ok.ensures.stays c.in-Ok.ensures.room))
    c.give-handle.ensures.live c.give-handle.ensures.held c.in-Ok.ensures.held c.in-Ok.ensures.given c.give-handle.ensures.others
