use Rattle.std.proofs.Common.{sym, subst, ◌∙◌}
use Rattle.std.proofs.lemmas.Option.{get_or_from_slice_get}
use Rattle.wasi_p1_types.specs.Items.{IsOfKind}
use Rattle.wasi_p1_types.specs.declared.items.Item.TheVariants.{Closed}
use Rattle.wasi_p1_state.proofs.Naming.{get_slot, get_none}
use Rattle.wasi_p1_state.proofs.descriptors.Descriptors.get.Goals as goal

pub slot_of_item-requires : goal.slot_of_item-requires
slot_of_item-requires c = subst (IsOfKind c.self.inside.table.entries)
    (get_or_from_slice_get c.self.inside.items.items c.args.fd c.in-Some.item Closed
    (sym c.item_at.ensures ∙ c.in-Some.is)) (c.self.invariant.named.kinds c.args.fd)

pub returns-in-Some : goal.returns-in-Some
returns-in-Some c = rw (← c.self.view_is)
    (get_slot _ _ _ _ (sym c.item_at.ensures ∙ c.in-Some.is) c.slot_of_item.ensures)

pub returns-in-None : goal.returns-in-None
returns-in-None c = rw (← c.self.view_is) (get_none _ _ _ (sym c.item_at.ensures ∙ c.in-None.is))
