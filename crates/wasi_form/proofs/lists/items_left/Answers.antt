use Rattle.std.proofs.Common.{◌≡◌, Some, None, ap, ◌∙◌, arith}
use Rattle.json.specs.Json.{after_end_array}
use Rattle.wasi_form.proofs.Grammar.{made_of, none_made, next_value-shorter, one_less, none_left, left_unread}
use Rattle.wasi_form.proofs.Items.{after-no_items, after-item}
use Rattle.wasi_form.proofs.Unreads.{passed_on, unread_part}
use Rattle.wasi_form.proofs.lists.items_left.Goals as goal

pub items-smaller : goal.items-smaller
items-smaller g c =
    let goes_on : (after_end_array c.items.reader ≡ None) × (c.take_end_array.new.self ≡ c.items.reader) = grind arith in
    let item = made_of g.T.Item.of _ _ _ (rw goes_on.1 at c.in_ok-item.ensures) in
    let shorter = next_value-shorter c.args.depth c.items.reader c.next.new.reader item.0 item.1 in
    omega arith

pub items-preserved : goal.items-preserved
items-preserved g c =
    let goes_on : (after_end_array c.items.reader ≡ None) × (c.take_end_array.new.self ≡ c.items.reader) = grind arith in
    let item = made_of g.T.Item.of _ _ _ (rw goes_on.1 at c.in_ok-item.ensures) in
    one_less {d = item.0} c.items.invariant goes_on.0 item.1 (λ ds. after-item (λ v. v.items) g.T.Item.see g.T.Item.of c.items.found c.in_ok-found.found c.in_ok-item.item item.0 ds c.in_ok-found.ensures item.2)

pub returns-in_err-item : goal.returns-in_err-item
returns-in_err-item g c =
    let goes_on : (after_end_array c.items.reader ≡ None) × (c.take_end_array.new.self ≡ c.items.reader) = grind arith in
    passed_on _ c.from_residual.result _ _ c.from_residual.ensures.1
    (unread_part _ _ _ (λ none. left_unread c.items.invariant goes_on.0 (none_made g.T.Item.of _ none)) (rw goes_on.1 at c.in_err-item.ensures))

pub returns : goal.returns
returns g c =
    let ends : after_end_array c.items.reader ≡ Some c.take_end_array.new.self = grind arith in
    none_left c.items.invariant ends ∙ ap (λ found. Some (found, c.take_end_array.new.self)) (after-no_items g.T.Item.of _)
