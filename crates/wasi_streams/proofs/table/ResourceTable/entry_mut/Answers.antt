use Rattle.std.proofs.Common.{◌≡◌, ◌∙◌, ◌<◌, sym, refl, subst, arith, length, slice_index_or, Some, None, min}
use Rattle.std.specs.FinMap.{get}
use Rattle.std.specs.Prelude.{IsSome}
use Rattle.std.specs.Vec.{vec_capacity}
use Rattle.wasi_streams.proofs.Entries.{get-entries_in, is_within, at_any, lent, indexed_kept}
use Rattle.wasi_streams.proofs.table.ResourceTable.entry_mut.Goals as goal

pub index_mut-requires : goal.index_mut-requires
index_mut-requires c =
    let within = is_within c.self.inside.slots.items c.args.number
    (subst (λ t. IsSome (get t.entries c.args.number)) (sym c.self.view_is) c.requires.there) in
    omega (arith, within, c.self.inside.slots.ok.0)

pub invariant_of-self-lent : goal.invariant_of-self-lent
invariant_of-self-lent c = λ w.
    let within : c.args.number < length c.self.inside.slots.items = is_within c.self.inside.slots.items c.args.number
    (subst (λ t. IsSome (get t.entries c.args.number)) (sym c.self.view_is) c.requires.there) in
    rw c.in-Some.is (indexed_kept c.self.invariant c.args.number c.in-Some.entry w within
    (at_any c.self.inside.slots.items c.args.number _ within ∙ sym c.index_mut.ensures.value ∙ c.in-Some.is))

pub returns : goal.returns
returns c =
    let within : c.args.number < length c.self.inside.slots.items = is_within c.self.inside.slots.items c.args.number
    (subst (λ t. IsSome (get t.entries c.args.number)) (sym c.self.view_is) c.requires.there) in
    let was : slice_index_or c.self.inside.slots.items c.args.number None ≡ Some c.in-Some.entry =
    at_any c.self.inside.slots.items c.args.number _ within ∙ sym c.index_mut.ensures.value ∙ c.in-Some.is in
    rw (← c.self.view_is, c.in-Some.is) (
      (
        refl,
        λ w. lent c.self.inside.slots.items
            (min (min (vec_capacity c.self.inside.slots) (vec_capacity c.self.inside.free)) c.self.inside.max)
            c.self.inside.max c.args.number c.in-Some.entry within was w,
      ),
      record { value = get-entries_in c.self.inside.slots.items c.args.number ∙ was; lends = tt },
    )
