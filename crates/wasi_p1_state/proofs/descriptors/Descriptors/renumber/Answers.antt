use Rattle.std.proofs.Common.{arith}
use Rattle.wasi_p1_state.proofs.Exchanging.{are_live, swapped_kept, swapped_within, swapped_first, swapped_live, swapped_slots, swapped_then_closed}
use Rattle.wasi_p1_model.proofs.Renumbering.{owned_swapped}
use Rattle.wasi_p1_state.proofs.Tabled.{is_given}
use Rattle.wasi_p1_state.proofs.descriptors.Descriptors.renumber.Goals as goal

pub swap-requires-clause-i_in_bounds : goal.swap-requires-clause-i_in_bounds
swap-requires-clause-i_in_bounds g c =
    let among = rw (← c.self.view_is) at c.requires.from_within in
    omega (arith, is_given _ _ _ among, c.self.inside.items.ok.0)

pub swap-requires-clause-j_in_bounds : goal.swap-requires-clause-j_in_bounds
swap-requires-clause-j_in_bounds g c =
    let among = rw (← c.self.view_is) at c.requires.to_within in
    omega (arith, is_given _ _ _ among, c.self.inside.items.ok.0)

pub invariant_of-self : goal.invariant_of-self
invariant_of-self g c =
    let are = rw (← c.self.view_is) at (are_live c.requires.from_within c.requires.from_in_use c.requires.to_within
    c.requires.to_in_use c.requires.apart) in
    rw c.swap.ensures.items (swapped_kept _ _ are c.self.invariant)

pub close-requires-clause-within : goal.close-requires-clause-within
close-requires-clause-within g c =
    let are = rw (← c.self.view_is) at (are_live c.requires.from_within c.requires.from_in_use c.requires.to_within
    c.requires.to_in_use c.requires.apart) in
    rw c.swap.ensures.items (swapped_within _ _ are)

pub close-requires-clause-was_in_use : goal.close-requires-clause-was_in_use
close-requires-clause-was_in_use g c =
    let are = rw (← c.self.view_is) at (are_live c.requires.from_within c.requires.from_in_use c.requires.to_within
    c.requires.to_in_use c.requires.apart) in
    rw c.swap.ensures.items (swapped_live _ _ are)

pub returns-clause-slots : goal.returns-clause-slots
returns-clause-slots g c =
    let are = rw (← c.self.view_is) at (are_live c.requires.from_within c.requires.from_in_use c.requires.to_within
    c.requires.to_in_use c.requires.apart) in
    rw (c.close.ensures.slots, c.swap.ensures.items, ← c.self.view_is) (swapped_then_closed _ _ are)

pub close-requires-clause-holds : goal.close-requires-clause-holds
close-requires-clause-holds g c =
    let are = rw (← c.self.view_is) at (are_live c.requires.from_within c.requires.from_in_use c.requires.to_within
    c.requires.to_in_use c.requires.apart) in
    let holds = rw (← c.self.view_is) at c.requires.holds in
    rw (c.swap.ensures.items, swapped_slots _ _ are)
    (record { owned = owned_swapped are.two holds.owned; none = holds.none })

pub returns-clause-live : goal.returns-clause-live
returns-clause-live g c =
    let are = rw (← c.self.view_is) at (are_live c.requires.from_within c.requires.from_in_use c.requires.to_within
    c.requires.to_in_use c.requires.apart) in
    rw (← c.self.view_is, ← swapped_first _ _ are, ← c.swap.ensures.items) c.close.ensures.live
