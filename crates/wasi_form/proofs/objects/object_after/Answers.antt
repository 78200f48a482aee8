use Rattle.std.proofs.Common.{◌∷◌, ◌-◌, Some, option_map, ap, ◌∙◌, refl, arith}
use Rattle.json.specs.Json.{parse_map}
use Rattle.json.specs.Reads.{token_of}
use Rattle.serde_json.specs.Data.{object, no_members}
use Rattle.serde_json.specs.Find.{as_object}
use Rattle.wasi_form.specs.Tokens.{next_value, next_members, nothing}
use Rattle.wasi_form.proofs.Firsts.{other_is_no_object}
use Rattle.wasi_form.proofs.Grammar.{next_object, next_deep_object, made_of, twice, none_made, remade}
use Rattle.wasi_form.proofs.Unreads.{passed_on, unread_part}
use Rattle.wasi_form.proofs.objects.object_after.Goals as goal

pub returns-then-depth-eq0 : goal.returns-then-depth-eq0
returns-then-depth-eq0 g c =
    ap (λ k. parse_map (λ d. option_map g.F.Fields.of (as_object d)) (next_value c.args.depth (token_of k ∷ c.args.reader.now))) c.in-BeginObject.is
    ∙ ap (parse_map (λ d. option_map g.F.Fields.of (as_object d))) (next_deep_object _ _ (omega arith))

pub returns-in_err-members_left-in-BeginObject : goal.returns-in_err-members_left-in-BeginObject
returns-in_err-members_left-in-BeginObject g c =
    let opened = ap (λ k. next_value c.args.depth (token_of k ∷ c.args.reader.now)) c.in-BeginObject.is ∙ next_object c.args.depth c.args.reader.now (omega arith) in
    passed_on _ c.from_residual.result _ _ c.from_residual.ensures.1
    (unread_part _ _ _ (λ none. ap (parse_map (λ d. option_map g.F.Fields.of (as_object d))) (opened ∙ ap (parse_map object) (none_made g.F.Fields.of _ none)))
    c.in_err-members_left-in-BeginObject.ensures)

pub returns-in_ok-members_left-in-BeginObject : goal.returns-in_ok-members_left-in-BeginObject
returns-in_ok-members_left-in-BeginObject g c =
    let opened = ap (λ k. next_value c.args.depth (token_of k ∷ c.args.reader.now)) c.in-BeginObject.is ∙ next_object c.args.depth c.args.reader.now (omega arith) in
    ap (parse_map (λ d. option_map g.F.Fields.of (as_object d))) opened
    ∙ twice object (λ d. option_map g.F.Fields.of (as_object d)) (λ ms. Some (g.F.Fields.of ms)) (next_members (c.args.depth - 1) no_members c.args.reader.now) (λ ms. refl)
    ∙ remade g.F.Fields.of (λ ms. Some (g.F.Fields.of ms)) (λ all. Some all) _ _ _ (λ ms. refl) c.in_ok-members_left-in-BeginObject.ensures

pub returns-in_ok-pass_after-in_default : goal.returns-in_ok-pass_after-in_default
returns-in_ok-pass_after-in_default g c =
    let passed = made_of nothing _ _ _ c.in_ok-pass_after-in_default.ensures in
    other_is_no_object (option_map g.F.Fields.of) c.args.depth c.args.token c.args.reader.now _ _ c.in_default.not-BeginObject passed.1
