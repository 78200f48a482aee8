use Rattle.std.proofs.Common.{◌∙◌, ap, cond, is_some, Some, ℕ, arith, rules}
use Rattle.wasi_streams.proofs.Entries.{indexed_taken, taken-set, entries-put, get-entries_in}
use Rattle.wasi_streams.proofs.table.ResourceTable.push_reserved.Goals as goal

pub index_mut-requires : goal.index_mut-requires
index_mut-requires c = let is = indexed_taken c.self.invariant c.in-Some.number c.args.entry {rest = c.pop.new.self.items} (search rules) in omega (arith, is.0.0)

pub invariant_of-self : goal.invariant_of-self
invariant_of-self c = rw c.in-Some.ensures.capacity (indexed_taken c.self.invariant c.in-Some.number c.args.entry {rest = c.pop.new.self.items} (search rules)).1

pub returns-in-Some-clause-fresh : goal.returns-in-Some-clause-fresh
returns-in-Some-clause-fresh c = rw (← c.self.view_is)
    (get-entries_in c.self.inside.slots.items c.in-Some.number
    ∙ (indexed_taken c.self.invariant c.in-Some.number c.args.entry {rest = c.pop.new.self.items} (search rules)).0.1)

pub returns-in-Some-clause-entries : goal.returns-in-Some-clause-entries
returns-in-Some-clause-entries c = rw (← c.self.view_is)
    (entries-put c.self.inside.slots.items c.in-Some.number c.args.entry
    (indexed_taken c.self.invariant c.in-Some.number c.args.entry {rest = c.pop.new.self.items} (search rules)).0.0)

pub returns-in-Some-clause-spare : goal.returns-in-Some-clause-spare
returns-in-Some-clause-spare c =
    let is = indexed_taken c.self.invariant c.in-Some.number c.args.entry {rest = c.pop.new.self.items} (search rules) in
    let set = taken-set c.self.inside.slots.items c.in-Some.number (Some c.args.entry) is.0.0 in
    let none = ap {B = ℕ} (λ o. cond (is_some o) 1 0) is.0.1 in
    let spare = ap (λ t. t.spare) c.self.view_is in
    omega (arith, set, none, spare, c.requires.spare, c.in-Some.ensures.capacity)
