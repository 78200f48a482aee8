use Rattle.std.proofs.Common.{ap, arith}
use Rattle.wasi_p1_state.proofs.descriptors.Descriptors.put.Goals as goal

pub place-requires : goal.place-requires
place-requires c = record {
  kept = (c.self.inside.table.entries, c.self.invariant);
  room = let spare = ap (λ t. t.room) c.self.view_is in omega (arith, spare, c.requires.room);
}

pub invariant_of-self : goal.invariant_of-self
invariant_of-self c =
    (c.place.ensures.placed _ _ _ c.self.invariant c.admit-item.ensures.admitted c.requires.in_use).kept

pub returns-clause-number : goal.returns-clause-number
returns-clause-number c = rw (← c.self.view_is)
    (c.place.ensures.placed _ _ _ c.self.invariant c.admit-item.ensures.admitted c.requires.in_use).number

pub returns-clause-slots : goal.returns-clause-slots
returns-clause-slots c = rw (← c.self.view_is)
    (c.place.ensures.placed _ _ _ c.self.invariant c.admit-item.ensures.admitted c.requires.in_use).slots
