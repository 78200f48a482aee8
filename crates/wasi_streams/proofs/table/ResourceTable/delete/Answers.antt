use Rattle.std.proofs.Common.{rules}
use Rattle.wasi_streams.proofs.Entries.{indexed_freed}
use Rattle.wasi_streams.proofs.table.ResourceTable.delete.Goals as goal

pub invariant_of-self-2 : goal.invariant_of-self-2
invariant_of-self-2 c = rw (c.push_reserved.ensures.items, c.push_reserved.ensures.capacity, c.take.ensures.after)
    (indexed_freed c.self.invariant c.args.resource.number c.in-Some-take.entry (search rules) (search rules))
