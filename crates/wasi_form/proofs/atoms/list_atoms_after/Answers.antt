use Rattle.std.proofs.Common.{◌∷◌, ◌-◌, Some, ap, refl, ◌∙◌, arith}
use Rattle.std.specs.Prelude.{option_map}
use Rattle.json.specs.Json.{parse_map}
use Rattle.json.specs.Reads.{token_of}
use Rattle.serde_json.specs.Data.{array}
use Rattle.serde_json.specs.Find.{as_array}
use Rattle.wasi_form.specs.Atoms.{flat_items}
use Rattle.wasi_form.specs.Tokens.{next_value, next_items, nothing}
use Rattle.wasi_form.proofs.Firsts.{other_is_no_list}
use Rattle.wasi_form.proofs.Grammar.{next_array, next_deep_array, made_of, twice, none_made, remade}
use Rattle.wasi_form.proofs.Unreads.{passed_on, unread_part}
use Rattle.wasi_form.proofs.atoms.list_atoms_after.Goals as goal

pub returns-then-depth-eq0 : goal.returns-then-depth-eq0
returns-then-depth-eq0 c =
    ap (λ k. parse_map (λ d. option_map flat_items (as_array d)) (next_value c.args.depth (token_of k ∷ c.args.reader.now))) c.in-BeginArray.is
    ∙ ap (parse_map (λ d. option_map flat_items (as_array d))) (next_deep_array _ _ (omega arith))

pub returns-in_err-atoms_left-in-BeginArray : goal.returns-in_err-atoms_left-in-BeginArray
returns-in_err-atoms_left-in-BeginArray c =
    let opened = ap (λ k. next_value c.args.depth (token_of k ∷ c.args.reader.now)) c.in-BeginArray.is ∙ next_array c.args.depth c.args.reader.now (omega arith) in
    passed_on _ c.from_residual.result _ _ c.from_residual.ensures.1
    (unread_part _ _ _ (λ none. ap (parse_map (λ d. option_map flat_items (as_array d))) (opened ∙ ap (parse_map array) (none_made flat_items _ none)))
    c.in_err-atoms_left-in-BeginArray.ensures)

pub returns-in_ok-atoms_left-in-BeginArray : goal.returns-in_ok-atoms_left-in-BeginArray
returns-in_ok-atoms_left-in-BeginArray c =
    let opened = ap (λ k. next_value c.args.depth (token_of k ∷ c.args.reader.now)) c.in-BeginArray.is ∙ next_array c.args.depth c.args.reader.now (omega arith) in
    ap (parse_map (λ d. option_map flat_items (as_array d))) opened
    ∙ twice array (λ d. option_map flat_items (as_array d)) (λ ds. Some (flat_items ds)) (next_items (c.args.depth - 1) c.args.reader.now) (λ ds. refl)
    ∙ remade flat_items (λ ds. Some (flat_items ds)) (λ all. Some all) _ _ _ (λ ds. refl) c.in_ok-atoms_left-in-BeginArray.ensures

pub returns-in_ok-pass_after-in_default : goal.returns-in_ok-pass_after-in_default
returns-in_ok-pass_after-in_default c =
    let passed = made_of nothing _ _ _ c.in_ok-pass_after-in_default.ensures in
    other_is_no_list (option_map flat_items) c.args.depth c.args.token c.args.reader.now _ _ c.in_default.not-BeginArray passed.1
