use Rattle.std.proofs.Common.{length, arith}
use Rattle.wasi_paged_map.proofs.EntryLemmas.{no_place, placed_more, pushed}
use Rattle.wasi_paged_map.proofs.pages.Pages.insert.Goals as goal

pub invariant_of-self-2 : goal.invariant_of-self-2
invariant_of-self-2 g c =
    rw (c.push_reserved.ensures.items, c.reserve.ensures.items)
    (placed_more c.self.inside.pages.items c.reach.new.pages.items c.set.new.pages.items c.args.n c.self.inside.numbers.items
    (length c.self.inside.things.items) c.len-2.result _ c.self.invariant
    (no_place c.args.n c.self.inside.numbers.items c.self.inside.things.items c.self.invariant.paired (rw (← c.self.view_is) at c.requires))
    (omega (arith, c.push_reserved-2.ensures.len, c.reserve-2.ensures.len))
    (omega (arith, c.len-2.ensures, c.push_reserved-2.ensures.len, c.reserve-2.ensures.len)) c.reach.ensures.same c.set.ensures.set
    (omega (arith, c.set.ensures.count, c.reach.ensures.few c.self.invariant.few)))

pub returns-clause-put : goal.returns-clause-put
returns-clause-put g c =
    rw (← c.self.view_is, c.push_reserved.ensures.items, c.reserve.ensures.items, c.push_reserved-2.ensures.items, c.reserve-2.ensures.items)
    (pushed c.args.n c.self.inside.numbers.items c.self.inside.things.items c.args.thing c.self.invariant.paired
    (rw (← c.self.view_is) at c.requires))
