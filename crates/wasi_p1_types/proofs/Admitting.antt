-- A descriptor that comes into the table.
use Rattle.std.proofs.Common.{◌≡◌, Some, None, ap, ◌∙◌, arith}
use Rattle.std.proofs.lemmas.Bool.Decides.{nat_tests}
use Rattle.std.specs.FinMap.{get, insert, gets}
use Rattle.wasi_streams.specs.Table.{Entries}
use Rattle.wasi_streams.specs.declared.entry.Entry.{Entry}
use Rattle.wasi_streams.specs.declared.table.Resource.{Resource}
use Rattle.wasi_p1_types.specs.declared.slots.Slot.{Slot}
use Rattle.wasi_p1_types.specs.Items.{resource_in, slot_in, Admitted, IsOfKind}
use Rattle.wasi_p1_types.specs.declared.items.Item.{Item}

-- a descriptor was put into the table
pub admitted_by : {table table' : Entries} {item : Item} {slot : Slot} (r : Resource) (e : Entry)
    → resource_in item ≡ Some r.number → get table r.number ≡ None → table' ≡ insert table r.number e
    → (get table' r.number ≡ Some e → IsOfKind table' item × (slot_in table' item ≡ slot))
    → Admitted table table' item slot
admitted_by {table} {table'} r e names fresh put then =
    let at : get (insert table r.number e) r.number ≡ Some e = grind (arith, gets, nat_tests) in
    let both = then (ap (λ t. get t r.number) put ∙ at) in
    record { resource = r.number; entry = e; names = names; fresh = fresh; put = put; kind = both.0; stands = both.1 }
