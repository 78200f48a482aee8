use Rattle.std.proofs.Common.{◌≡◌, true, ◌∷◌, ◌-◌, Some, None, [], ap, ◌∙◌, sym, refl, arith}
use Rattle.json.specs.Json.{after_end_array, read_key, parse_map, value}
use Rattle.json.specs.Reads.{token_of}
use Rattle.json.proofs.Grammar.{value_is, read_key-shorter}
use Rattle.serde_json.specs.Data.{array, object, put, no_members}
use Rattle.serde_json.specs.Read.{of_json, converted}
use Rattle.wasi_form.specs.declared.shapes.Unread.TheVariants.{Shape}
use Rattle.wasi_form.specs.Tokens.{next_value, next_items, next_members, nothing}
use Rattle.wasi_form.proofs.Firsts.{is_lone, lone_passed}
use Rattle.wasi_form.proofs.Grammar.{next_value-shorter, no_value, next_number, next_array, next_object, next_deep_array, next_deep_object, all_left, one_less, none_left, left_unread, all_members, member_less, no_members_left, no_key_left, member_unread_left, made_of, none_made, twice}
use Rattle.wasi_form.proofs.Unreads.{passed_on, unread_part, read_as}
use Rattle.wasi_form.proofs.tokens.+values.Goals as goal

-- ---- pass

pub pass-returns-in-None : goal.pass-returns-in-None
pass-returns-in-None t c =
    let empty : c.args.reader.now ≡ [] = grind arith in
    ap (λ ts. parse_map nothing (next_value c.args.depth ts)) empty ∙ ap (parse_map nothing) (no_value c.args.depth)

-- ---- pass_after

pub pass_after-returns-in-Null : goal.pass_after-returns-in-Null
pass_after-returns-in-Null t c =
    let lone : is_lone c.args.token ≡ true = grind arith in
    lone_passed c.args.depth c.args.token c.args.reader.now lone

pub pass_after-returns-in-Some : goal.pass_after-returns-in-Some
pass_after-returns-in-Some t c =
    ap (λ k. parse_map nothing (next_value c.args.depth (token_of k ∷ c.args.reader.now))) c.in-Number.is
    ∙ ap (parse_map nothing) (next_number _ _ _ _ (sym c.in-Some.ensures))

pub pass_after-returns-in-None : goal.pass_after-returns-in-None
pass_after-returns-in-None t c =
    ap (λ k. parse_map nothing (next_value c.args.depth (token_of k ∷ c.args.reader.now))) c.in-Number.is
    ∙ ap (parse_map nothing) (next_number _ _ _ _ (sym c.in-None.ensures))

pub pass_after-returns-then-depth-eq0 : goal.pass_after-returns-then-depth-eq0
pass_after-returns-then-depth-eq0 t c =
    ap (λ k. parse_map nothing (next_value c.args.depth (token_of k ∷ c.args.reader.now))) c.in-BeginArray.is
    ∙ ap (parse_map nothing) (next_deep_array _ _ (omega arith))

pub pass_after-returns-then-depth-eq0-2 : goal.pass_after-returns-then-depth-eq0-2
pass_after-returns-then-depth-eq0-2 t c =
    ap (λ k. parse_map nothing (next_value c.args.depth (token_of k ∷ c.args.reader.now))) c.in-BeginObject.is
    ∙ ap (parse_map nothing) (next_deep_object _ _ (omega arith))

pub pass_after-returns-else-depth-eq0 : goal.pass_after-returns-else-depth-eq0
pass_after-returns-else-depth-eq0 t c =
    let opened = ap (λ k. parse_map nothing (next_value c.args.depth (token_of k ∷ c.args.reader.now))) c.in-BeginArray.is
    ∙ ap (parse_map nothing) (next_array c.args.depth c.args.reader.now (omega arith))
    ∙ twice array nothing nothing (next_items (c.args.depth - 1) c.args.reader.now) (λ ds. refl) in
    read_as _ c.pass_items.result _ _ (sym opened) c.pass_items.ensures

pub pass_after-returns-else-depth-eq0-2 : goal.pass_after-returns-else-depth-eq0-2
pass_after-returns-else-depth-eq0-2 t c =
    let opened = ap (λ k. parse_map nothing (next_value c.args.depth (token_of k ∷ c.args.reader.now))) c.in-BeginObject.is
    ∙ ap (parse_map nothing) (next_object c.args.depth c.args.reader.now (omega arith))
    ∙ twice object nothing nothing (next_members (c.args.depth - 1) no_members c.args.reader.now) (λ ms. refl) in
    read_as _ c.pass_members.result _ _ (sym opened) c.pass_members.ensures

pub pass_after-returns-in-EndObject : goal.pass_after-returns-in-EndObject
pass_after-returns-in-EndObject t c =
    let none : value c.args.depth (token_of c.args.token ∷ c.args.reader.now) ≡ None = rw (value_is c.args.depth (token_of c.args.token ∷ c.args.reader.now)) (grind arith) in
    ap (λ o. parse_map nothing (converted of_json o)) none

-- ---- pass_items

pub pass_items-items-init : goal.pass_items-items-init
pass_items-items-init t c = all_left (λ ds. refl)

pub pass_items-items-smaller : goal.pass_items-items-smaller
pass_items-items-smaller t c =
    let goes_on : (after_end_array c.items.reader ≡ None) × (c.take_end_array.new.self ≡ c.items.reader) = grind arith in
    let item = made_of nothing _ _ _ (rw goes_on.1 at c.in_ok-pass.ensures) in
    let shorter = next_value-shorter c.args.depth c.items.reader c.pass.new.reader item.0 item.1 in
    omega arith

pub pass_items-items-preserved : goal.pass_items-items-preserved
pass_items-items-preserved t c =
    let goes_on : (after_end_array c.items.reader ≡ None) × (c.take_end_array.new.self ≡ c.items.reader) = grind arith in
    let item = made_of nothing _ _ _ (rw goes_on.1 at c.in_ok-pass.ensures) in
    one_less {d = item.0} c.items.invariant goes_on.0 item.1 (λ ds. refl)

pub pass_items-returns-in_err-pass : goal.pass_items-returns-in_err-pass
pass_items-returns-in_err-pass t c =
    let goes_on : (after_end_array c.items.reader ≡ None) × (c.take_end_array.new.self ≡ c.items.reader) = grind arith in
    passed_on _ c.from_residual.result _ _ c.from_residual.ensures.1
    (unread_part _ _ _ (λ none. left_unread c.items.invariant goes_on.0 (none_made nothing _ none)) (rw goes_on.1 at c.in_err-pass.ensures))

pub pass_items-returns : goal.pass_items-returns
pass_items-returns t c =
    let ends : after_end_array c.items.reader ≡ Some c.take_end_array.new.self = grind arith in
    none_left c.items.invariant ends

-- ---- pass_members

pub pass_members-members-init : goal.pass_members-members-init
pass_members-members-init t c = record { before = no_members; is = refl; left = all_members c.args.depth c.args.reader.now }

pub pass_members-members-smaller : goal.pass_members-members-smaller
pass_members-members-smaller t c =
    let named : read_key c.members.reader ≡ Some (Some c.in-Some.field-0.now, c.next_key.new.self) = grind arith in
    let part = made_of nothing _ _ _ c.in_ok-pass.ensures in
    let after_key = read_key-shorter _ _ _ named in
    let shorter = next_value-shorter c.args.depth _ _ part.0 part.1 in
    omega arith

pub pass_members-members-preserved : goal.pass_members-members-preserved
pass_members-members-preserved t c =
    let named : read_key c.members.reader ≡ Some (Some c.in-Some.field-0.now, c.next_key.new.self) = grind arith in
    let part = made_of nothing _ _ _ c.in_ok-pass.ensures in
    let before = c.members.invariant.before in record {
      before = put c.in-Some.field-0.now part.0 before;
      is = refl;
      left = member_less c.members.invariant.left named part.1;
    }

pub pass_members-returns-in_err-next_key : goal.pass_members-returns-in_err-next_key
pass_members-returns-in_err-next_key t c =
    passed_on _ c.from_residual.result Shape _ c.from_residual.ensures.1 (ap (parse_map nothing) (no_key_left c.members.invariant.left c.in_err-next_key.ensures.value))

pub pass_members-returns-in_err-pass : goal.pass_members-returns-in_err-pass
pass_members-returns-in_err-pass t c =
    let named : read_key c.members.reader ≡ Some (Some c.in-Some.field-0.now, c.next_key.new.self) = grind arith in
    passed_on _ c.from_residual-in_err-pass.result _ _ c.from_residual-in_err-pass.ensures.1
    (unread_part _ _ _ (λ none. ap (parse_map nothing) (member_unread_left c.members.invariant.left named (none_made _ _ none))) c.in_err-pass.ensures)

pub pass_members-returns : goal.pass_members-returns
pass_members-returns t c =
    let ends : read_key c.members.reader ≡ Some (None, c.next_key.new.self) = grind arith in
    ap (parse_map nothing) (no_members_left c.members.invariant.left ends)
