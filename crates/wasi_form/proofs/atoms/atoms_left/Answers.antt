use Rattle.std.proofs.Common.{◌≡◌, Some, None, ap, sym, ◌∙◌, arith}
use Rattle.json.specs.Json.{after_end_array}
use Rattle.wasi_form.specs.Atoms.{flat, flat_items, atom_data}
use Rattle.wasi_form.proofs.AtomLists.{atom_more}
use Rattle.wasi_form.proofs.Grammar.{items_before, items_before-no_items, made_of, none_made, next_value-shorter, all_left, one_less, none_left, left_unread}
use Rattle.wasi_form.proofs.Unreads.{passed_on, unread_part}
use Rattle.wasi_form.proofs.atoms.atoms_left.Goals as goal

pub items-init : goal.items-init
items-init c = all_left (λ ds. ap (λ list. items_before atom_data list (flat_items ds)) (sym c.requires))

pub items-smaller : goal.items-smaller
items-smaller c =
    let goes_on : (after_end_array c.items.reader ≡ None) × (c.take_end_array.new.self ≡ c.items.reader) = grind arith in
    let item = made_of flat _ _ _ (rw goes_on.1 at c.in_ok-item.ensures) in
    let shorter = next_value-shorter c.args.depth c.items.reader c.next_atom.new.reader item.0 item.1 in
    omega arith

pub items-preserved : goal.items-preserved
items-preserved c =
    let goes_on : (after_end_array c.items.reader ≡ None) × (c.take_end_array.new.self ≡ c.items.reader) = grind arith in
    let item = made_of flat _ _ _ (rw goes_on.1 at c.in_ok-item.ensures) in
    one_less {d = item.0} c.items.invariant goes_on.0 item.1
    (atom_more c.items.atoms.items c.push.new.self.items c.in_ok-item.item item.0 c.in_ok-push.ensures.ok item.2)

pub returns-in_err-item : goal.returns-in_err-item
returns-in_err-item c =
    let goes_on : (after_end_array c.items.reader ≡ None) × (c.take_end_array.new.self ≡ c.items.reader) = grind arith in
    passed_on _ c.from_residual.result _ _ c.from_residual.ensures.1
    (unread_part _ _ _ (λ none. left_unread c.items.invariant goes_on.0 (none_made flat _ none)) (rw goes_on.1 at c.in_err-item.ensures))

pub returns : goal.returns
returns c =
    let ends : after_end_array c.items.reader ≡ Some c.take_end_array.new.self = grind arith in
    none_left c.items.invariant ends
    ∙ ap (λ ds. Some (ds, c.take_end_array.new.self)) (items_before-no_items atom_data c.items.atoms.items)
