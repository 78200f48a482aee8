use Rattle.std.proofs.Common.{◌∷◌, ◌-◌, ap, ◌∙◌, sym, refl, arith}
use Rattle.json.specs.Json.{parse_map}
use Rattle.json.specs.Reads.{token_of}
use Rattle.serde_json.specs.Data.{array}
use Rattle.wasi_form.specs.Lists.{◌>>=◌, items_all, list_of}
use Rattle.wasi_form.specs.Tokens.{next_value, next_items, nothing}
use Rattle.wasi_form.proofs.Firsts.{other_is_no_list}
use Rattle.wasi_form.proofs.Grammar.{next_array, next_deep_array, made_of, twice}
use Rattle.wasi_form.proofs.Unreads.{read_as}
use Rattle.wasi_form.proofs.lists.list_after.Goals as goal

pub returns-then-depth-eq0 : goal.returns-then-depth-eq0
returns-then-depth-eq0 g c =
    ap (λ k. parse_map (list_of g.T.Item.of) (next_value c.args.depth (token_of k ∷ c.args.reader.now))) c.in-BeginArray.is
    ∙ ap (parse_map (list_of g.T.Item.of)) (next_deep_array _ _ (omega arith))

pub returns-else-depth-eq0 : goal.returns-else-depth-eq0
returns-else-depth-eq0 g c =
    let opened = ap (λ k. parse_map (list_of g.T.Item.of) (next_value c.args.depth (token_of k ∷ c.args.reader.now))) c.in-BeginArray.is
    ∙ ap (parse_map (list_of g.T.Item.of)) (next_array c.args.depth c.args.reader.now (omega arith))
    ∙ twice array (list_of g.T.Item.of) (items_all g.T.Item.of) (next_items (c.args.depth - 1) c.args.reader.now) (λ ds. refl) in
    read_as _ c.items_left.result _ _ (sym opened) c.items_left.ensures

pub returns-in_ok-pass_after-in_default : goal.returns-in_ok-pass_after-in_default
returns-in_ok-pass_after-in_default g c =
    let passed = made_of nothing _ _ _ c.in_ok-pass_after-in_default.ensures in
    other_is_no_list (λ ds. ds >>= items_all g.T.Item.of) c.args.depth c.args.token c.args.reader.now _ _ c.in_default.not-BeginArray passed.1
