use Rattle.std.proofs.Common.{arith}
use Rattle.wasi_p1_state.proofs.Tabled.{given_file, put_kept, put_slots}
use Rattle.wasi_p1_state.proofs.descriptors.Descriptors.put_back.Goals as goal

pub item_under-item-requires : goal.item_under-item-requires
item_under-item-requires c =
    let file = rw (← c.self.view_is) at c.requires.is in
    omega (arith, given_file c.self.invariant c.args.fd c.args.slot file, c.self.inside.items.ok.0)

pub index_mut-requires : goal.index_mut-requires
index_mut-requires c =
    let file = rw (← c.self.view_is) at c.requires.is in
    omega (arith, given_file c.self.invariant c.args.fd c.args.slot file, c.self.inside.items.ok.0)

pub invariant_of-self : goal.invariant_of-self
invariant_of-self c =
    let file = rw (← c.self.view_is) at c.requires.is in
    rw (c.put_item.ensures, c.item_under-item.ensures) (put_kept c.self.invariant c.args.fd c.args.slot file)

pub returns-clause-slots : goal.returns-clause-slots
returns-clause-slots c =
    let file = rw (← c.self.view_is) at c.requires.is in
    rw (c.put_item.ensures, c.item_under-item.ensures, ← c.self.view_is) (put_slots c.self.invariant c.args.fd c.args.slot file)
